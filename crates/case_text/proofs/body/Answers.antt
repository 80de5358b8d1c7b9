-- `case_text::body` meets its contract: the sections in turn, each refusal the text's. Assumes nothing.
use Rattle.std.proofs.Common.{◌≡◌, ℕ, List, Ok, sym, ap, ◌∙◌}
use Rattle.std.proofs.lemmas.Result.{err_from_is_err_and}
use Rattle.fields.specs.Real.{allowed}
use Rattle.rows.specs.declared.Section.{Section}
use Rattle.rows.specs.Rows.{Check}
use Rattle.trailer.specs.declared.Edition.{Edition}
use Rattle.trailer.specs.Trailer.{behind_g}
use Rattle.case_text.specs.Text.{Reading, part_of, triplet_part_of, after_y, after_l, after_g, after_r, after_b, body_by, body_of}
use Rattle.case_text.proofs.Refusals.{on-fault, on-good}
use Rattle.case_text.proofs.body.Goals as goal

-- ---- a good section after the other: what is left of the body

module _ (x : Edition) (s : List ℕ) (t : ℕ) where
  abbrev Left : Reading → Type 0
  Left v = body_of x s t ≡ v

  after-b : (nb : ℕ) → Ok nb ≡ part_of Section.B s t → Left (after_b allowed x s t nb)
  unfolding body_by
  after-b nb h = on-good _ h

  after-r : (nb nr : ℕ) → Left (after_b allowed x s t nb) → Ok nr ≡ part_of Section.R s t → Left (after_r allowed x s t nb nr)
  after-r nb nr l h = l ∙ on-good _ h

  after-g : (nb nr ng : ℕ) → Left (after_r allowed x s t nb nr) → Ok ng ≡ part_of Section.G s t → Left (after_g allowed x s t nb nr ng)
  after-g nb nr ng l h = l ∙ on-good _ h

  -- the section behind G, by its name
  behind-part : {v : Check} {z : Section} → z ≡ behind_g x → v ≡ part_of z s t → v ≡ part_of (behind_g x) s t
  behind-part n e = e ∙ ap (λ (z : Section). part_of z s t) n

  after-l : (nb nr ng nl : ℕ) → Left (after_g allowed x s t nb nr ng) → Ok nl ≡ part_of (behind_g x) s t → Left (after_l allowed x s t nb nr ng nl)
  after-l nb nr ng nl l h = l ∙ on-good _ h

  after-y : (nb nr ng nl ny : ℕ) → Left (after_l allowed x s t nb nr ng nl) → Ok ny ≡ triplet_part_of x s t → Left (after_y x s t nb nr ng nl ny)
  after-y nb nr ng nl ny l h = l ∙ on-good _ h

-- ---- the ways out

pub returns-in_err-buses : goal.returns-in_err-buses
unfolding body_by
returns-in_err-buses c =
    let p = err_from_is_err_and c.from_residual.result c.from_residual.ensures.1 in
    rw (p.1, p.2) (sym (on-fault _ c.in_err-buses.ensures))

pub returns-in_err-slacks : goal.returns-in_err-slacks
returns-in_err-slacks c =
    let a = c.args in
    let b = after-b a.x a.s.now a.t _ c.in_ok-buses.ensures in
    let p = err_from_is_err_and c.from_residual-in_err-slacks.result c.from_residual-in_err-slacks.ensures.1 in
    rw (p.1, p.2) (sym (b ∙ on-fault _ c.in_err-slacks.ensures))

pub returns-in_err-generators : goal.returns-in_err-generators
returns-in_err-generators c =
    let a = c.args in
    let b = after-b a.x a.s.now a.t _ c.in_ok-buses.ensures in
    let r = after-r a.x a.s.now a.t _ _ b c.in_ok-slacks.ensures in
    let p = err_from_is_err_and c.from_residual-in_err-generators.result c.from_residual-in_err-generators.ensures.1 in
    rw (p.1, p.2) (sym (r ∙ on-fault _ c.in_err-generators.ensures))

pub returns-in_err-branches : goal.returns-in_err-branches
returns-in_err-branches c =
    let a = c.args in
    let b = after-b a.x a.s.now a.t _ c.in_ok-buses.ensures in
    let r = after-r a.x a.s.now a.t _ _ b c.in_ok-slacks.ensures in
    let g = after-g a.x a.s.now a.t _ _ _ r c.in_ok-generators.ensures in
    let p = err_from_is_err_and c.from_residual-in_err-branches.result c.from_residual-in_err-branches.ensures.1 in
    rw (p.1, p.2) (sym (g ∙ on-fault _ (behind-part a.x a.s.now a.t c.behind_g.ensures c.in_err-branches.ensures)))

pub returns-in_err-triplets : goal.returns-in_err-triplets
returns-in_err-triplets c =
    let a = c.args in
    let b = after-b a.x a.s.now a.t _ c.in_ok-buses.ensures in
    let r = after-r a.x a.s.now a.t _ _ b c.in_ok-slacks.ensures in
    let g = after-g a.x a.s.now a.t _ _ _ r c.in_ok-generators.ensures in
    let l = after-l a.x a.s.now a.t _ _ _ _ g (behind-part a.x a.s.now a.t c.behind_g.ensures c.in_ok-branches.ensures) in
    let p = err_from_is_err_and c.from_residual-in_err-triplets.result c.from_residual-in_err-triplets.ensures.1 in
    rw (p.1, p.2) (sym (l ∙ on-fault _ c.in_err-triplets.ensures))

pub returns : goal.returns
returns c =
    let a = c.args in
    let b = after-b a.x a.s.now a.t _ c.in_ok-buses.ensures in
    let r = after-r a.x a.s.now a.t _ _ b c.in_ok-slacks.ensures in
    let g = after-g a.x a.s.now a.t _ _ _ r c.in_ok-generators.ensures in
    let l = after-l a.x a.s.now a.t _ _ _ _ g (behind-part a.x a.s.now a.t c.behind_g.ensures c.in_ok-branches.ensures) in
    let y = after-y a.x a.s.now a.t _ _ _ _ _ l c.in_ok-triplets.ensures in
    rw (y, c.mode.ensures)
