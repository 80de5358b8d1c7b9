-- The five columns of flows, written place by place. Assumes nothing.
use Rattle.std.proofs.Common.{ℕ, ◌+◌, ◌<◌, ◌≡◌, List, length, refl}
use Rattle.std.specs.Float.{Float}
use Rattle.std.proofs.Math.ListN.{set, length-set}
use Rattle.layout.specs.Table.Laws.{Stored, stored-none, stored_next}
use Rattle.flows.specs.declared.Flow.{Flow}
use Rattle.flows.specs.declared.Flows.{Flows}
use Rattle.flows.specs.Flows.{flows_of}

-- a column of one figure of each flow, written over l up to branch k of n
abbrev pub Column : (ℕ → Float) → List Float → ℕ → ℕ → List Float → Type 0
Column f l n k a = (length a ≡ length l) × Stored f l n k a

next : {f : ℕ → Float} {l : List Float} {n k : ℕ} {a : List Float} {v : Float} → Column f l n k a → k < n → v ≡ f k → Column f l n (k + 1) (set a k v)
next c h e = (simp length-set c.0, stored_next c.1 h e)

-- all five
pub record Made (x : ℕ → Flow) (l : Flows) (n k : ℕ) (a : Flows) : Type 0 where
  pub pf : Column (λ e. (x e).pf) l.pf n k a.pf
  pub qf : Column (λ e. (x e).qf) l.qf n k a.qf
  pub pt : Column (λ e. (x e).pt) l.pt n k a.pt
  pub qt : Column (λ e. (x e).qt) l.qt n k a.qt
  pub loss : Column (λ e. (x e).loss) l.loss n k a.loss

module _ {x : ℕ → Flow} {l : Flows} {n : ℕ} where
  pub made-none : Made x l n 0 l
  made-none = record { pf = (refl, stored-none); qf = (refl, stored-none); pt = (refl, stored-none); qt = (refl, stored-none); loss = (refl, stored-none) }

  pub made-next : {k : ℕ} {a : Flows} {f : Flow} → Made x l n k a → k < n → f ≡ x k
      → Made x l n (k + 1) (flows_of (set a.pf k f.pf) (set a.qf k f.qf) (set a.pt k f.pt) (set a.qt k f.qt) (set a.loss k f.loss))
  made-next m h e =
      record {
        pf = next m.pf h (λ i. (e i).pf);
        qf = next m.qf h (λ i. (e i).qf);
        pt = next m.pt h (λ i. (e i).pt);
        qt = next m.qt h (λ i. (e i).qt);
        loss = next m.loss h (λ i. (e i).loss);
      }
