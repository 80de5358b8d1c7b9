-- What the room tells, that the admittances which the code has worked out are the branches' own, and what stands in the columns.
use Rattle.std.specs.Prelude.{ℕ, ◌≤◌, ◌<◌, List, ◌≡◌, length, get_or, Float}
use Rattle.std.proofs.Common.{◌∙◌, arith}
use Rattle.std.proofs.lemmas.List.{length-replicate}
use Rattle.network.specs.Network.{Branches}
use Rattle.network.specs.BranchTable.{BranchTable}
use Rattle.network.specs.Network.Laws.{under2}
use Rattle.layout.specs.Table.{stores}
use Rattle.layout.specs.Table.Laws.{stores-ext, stores_at, stores-past}
use Rattle.ybus.specs.declared.Admittance.{Admittance}
use Rattle.ybus.specs.Ybus.{admittances_of, admittance_at}
use Rattle.flows.specs.declared.Flow.{Flow}
use Rattle.flows.specs.declared.Flows.{Flows}
use Rattle.flows.specs.Flows.{flows_of, flow_by, with_flows_by, with_flows, flows_room, OnePerBranch}

pub one-per-branch : (m : ℕ) (f : Flows) → m ≤ flows_room f → OnePerBranch m f
one-per-branch m f h =
    let u = under2 m _ _ h in
    let v = under2 m _ _ u.0 in
    let a = under2 m _ _ v.0 in
    let b = under2 m _ _ v.1 in
    record { pf = a.0; qf = a.1; pt = b.0; qt = b.1; loss = u.1 }

-- only the admittances of its own branches count
pub flows-ext : (ends : Branches) (y z : ℕ → Admittance) (vm va : List Float) (f : Flows) → ((e : ℕ) → e < length ends.from → y e ≡ z e)
    → with_flows_by ends y vm va f ≡ with_flows_by ends z vm va f
unfolding with_flows_by
flows-ext ends y z vm va f h = λ i. flows_of (part (λ x. x.pf) f.pf i) (part (λ x. x.qf) f.qf i) (part (λ x. x.pt) f.pt i) (part (λ x. x.qt) f.qt i) (part (λ x. x.loss) f.loss i)
  where
    part : (g : Flow → Float) (l : List Float) → stores (λ e. g (flow_by ends y vm va e)) (length ends.from) l ≡ stores (λ e. g (flow_by ends z vm va e)) (length ends.from) l
    part g l = stores-ext _ _ (length ends.from) l (λ e q. λ i. g (flow_by ends (λ k. h e q i) vm va e))

-- the admittances of the code are the branches' own
pub flows-of-table : (t : BranchTable) (y : List Admittance) (vm va : List Float) (f a : Flows) → length t.values.g ≡ length t.ends.from
    → length t.ends.from ≤ 64 → y ≡ admittances_of (length t.values.g) t.values → a ≡ with_flows_by t.ends (admittance_at y) vm va f → a ≡ with_flows t vm va f
unfolding admittances_of
flows-of-table t y vm va f a same few e h =
    h ∙ flows-ext t.ends _ _ vm va f (λ k q. rw e (stores_at _ (length t.values.g) _ k _ (omega arith) (rw length-replicate (omega arith))))

-- ---- what stands in the columns

-- the figures of a flow at place e of each column
pub record FlowAt (x : Flow) (f : Flows) (e : ℕ) (d : Float) : Type 0 where
  pub pf : get_or f.pf e d ≡ x.pf
  pub qf : get_or f.qf e d ≡ x.qf
  pub pt : get_or f.pt e d ≡ x.pt
  pub qt : get_or f.qt e d ≡ x.qt
  pub loss : get_or f.loss e d ≡ x.loss

module _ (ends : Branches) (y : ℕ → Admittance) (vm va : List Float) (f : Flows) (e : ℕ) (d : Float) where
  -- a branch's own
  pub flow-at : OnePerBranch (length ends.from) f → e < length ends.from → FlowAt (flow_by ends y vm va e) (with_flows_by ends y vm va f) e d
  unfolding with_flows_by
  flow-at m h =
      record {
        pf = stores_at _ _ f.pf e d h m.pf;
        qf = stores_at _ _ f.qf e d h m.qf;
        pt = stores_at _ _ f.pt e d h m.pt;
        qt = stores_at _ _ f.qt e d h m.qt;
        loss = stores_at _ _ f.loss e d h m.loss;
      }

  -- past the branches what stood there
  pub flow-past : length ends.from ≤ e
      → FlowAt (record { pf = get_or f.pf e d; qf = get_or f.qf e d; pt = get_or f.pt e d; qt = get_or f.qt e d; loss = get_or f.loss e d }) (with_flows_by ends y vm va f) e d
  unfolding with_flows_by
  flow-past h =
      record {
        pf = stores-past _ _ f.pf e d h;
        qf = stores-past _ _ f.qf e d h;
        pt = stores-past _ _ f.pt e d h;
        qt = stores-past _ _ f.qt e d h;
        loss = stores-past _ _ f.loss e d h;
      }
