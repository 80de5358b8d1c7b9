-- A section's check by 01's digit rule and by 02's: of its fields and of a line; proofs/Before tells it of the lines and of the section. Assumes nothing.
use Rattle.std.specs.Prelude.{◌≡◌, refl, Bool, true, false, cond, ◌&&◌, ◌⊎◌, List, [], ◌∷◌, ◌++◌, leb, get_or, take, drop, is_some, Ok, Err}
use Rattle.std.proofs.Common.{sym, ◌∙◌, ⊎_elim, append_assoc, drop-drop}
use Rattle.std.proofs.Math.Path.{ap}
use Rattle.std.proofs.Math.Logic.{inl, inr}
use Prim.Native.Nat.{ℕ, suc, ◌+◌, ◌<◌}
use native.Mathlib.Omega.{arith}
use Rattle.std.proofs.Math.Nat.{add-zero, zero-lt-suc}
use Rattle.std.proofs.Math.ListN.{length, length-append}
use Rattle.std.proofs.Math.Seq.{take-append_seam, drop-append_seam}
use Rattle.real.specs.Tests.{decided, true-false}
use Rattle.fields.specs.Cut.{empty, only, pieces}
use Rattle.fields.specs.Real.{allowed}
use Rattle.fields.specs.Before.{allowed_before, Spared}
use Rattle.fields.specs.Before.Laws.{real-kept, or-nan-kept, real-spared}
use Rattle.rows.specs.Asked.{size_of, want_of, good_by}
use Rattle.rows.specs.Line.{LineCheck, form_of, fields_by, line_by}
use Rattle.rows.specs.Rows.{after, section_by}
use Rattle.rows.specs.Printed.{spread, fields_in}
use Rattle.rows.specs.Printed.Laws.{line-printed}
use Rattle.rows.specs.Before.{Behind, Freed}
use Rattle.rows.specs.declared.Section.{Section}
use Rattle.rows.specs.declared.Want.{Want}
use Rattle.rows.specs.declared.Fault.{Fault}
use Rattle.rows.specs.Rows.{Check}

-- ---- a field

-- what 01's rule took, 02's takes
pub good-kept : (w : Want) (f : List ℕ) → good_by allowed_before w f ≡ true → good_by allowed w f ≡ true
good-kept Want.Plain f h = ap is_some (real-kept f h) ∙ h
good-kept Want.Stored f h = ap is_some (or-nan-kept f h) ∙ h
good-kept Want.Bus f h = h
good-kept Want.Kind f h = h

-- what it did not, and 02's does, is a real that is spared its zeros in front
good-spared : (w : Want) (f : List ℕ) → good_by allowed_before w f ≡ false → good_by allowed w f ≡ true → Spared f
good-spared Want.Plain f was is = real-spared f was is
good-spared Want.Stored f was is =
    ⊎_elim (λ q. absurd (true-false refl (rw q at was))) (λ q. real-spared f (rw q at was) (rw q at is)) (decided (only 63 f))
good-spared Want.Bus f was is = absurd (true-false is was)
good-spared Want.Kind f was is = absurd (true-false is was)

pub freed-spared : (s : List ℕ) (p : ℕ) (z : Section) (rows : List (List (List ℕ))) (k j : ℕ) → Freed s p z rows k j → Spared (get_or (get_or rows k []) j [])
freed-spared s p z rows k j f = good-spared (want_of z j) (get_or (get_or rows k []) j []) f.refused f.taken

-- ---- every refusal of the fields from `at` on, and of the lines, lies at `at` or behind

fields-behind : (z : Section) (p j at : ℕ) (fs : List (List ℕ)) → p < at → Behind p (fields_by allowed z j at fs)
unfolding fields_by
fields-behind z p j at [] h = tt
fields-behind z p j at (f ∷ fs) h =
    ⊎_elim (λ q. rw q (fields-behind z p (j + 1) (at + length f + 1) fs (omega arith))) (λ q. rw q h) (decided (good_by allowed (want_of z j) f))

line-behind : (z : Section) (p at : ℕ) (l : List ℕ) → p < at → Behind p (line_by allowed z at l)
line-behind z p at l h =
    ⊎_elim (λ q. rw q (fields-behind z p 0 (at + 2) (fields_in l) (omega arith))) (λ q. rw q h) (decided (form_of z (pieces 32 l)))

pub after-behind : (p : ℕ) (v : LineCheck) (w : Check) → Behind p v → Behind p w → Behind p (after v w)
after-behind p (Ok _) w h k = k
after-behind p (Err (Fault.Rows n)) w h k = h
after-behind p (Err (Fault.Form n)) w h k = h
after-behind p (Err (Fault.Field n)) w h k = h

either-behind : (p : ℕ) (b : Bool) (v w : Check) → Behind p v → Behind p w → Behind p (cond b v w)
either-behind p true v w h k = h
either-behind p false v w h k = k

pub section-behind : (z : Section) (p r at : ℕ) (ls : List (List ℕ)) → p < at → Behind p (section_by allowed z r at ls)
unfolding section_by
section-behind z p r at [] h = tt
section-behind z p r at (l ∷ ls) h =
    let rest = after-behind p (line_by allowed z at l) _ (line-behind z p at l h) (section-behind z p (r + 1) (at + length l + 1) ls (omega arith)) in
    either-behind p (empty l && empty ls) _ _ tt (either-behind p (leb (size_of z) r) _ _ h (either-behind p (empty ls) _ _ h rest))

-- ---- the fields of a line, from the space at b on: field i of these is the one that is freed

pub record MovedField (s : List ℕ) (z : Section) (j end : ℕ) (fs : List (List ℕ)) (v v' : LineCheck) : Type 0 where
  pub place : ℕ
  pub was : v ≡ Err (Fault.Field place)
  pub i : ℕ
  pub inside : i < length fs
  pub stands : take (length (get_or fs i [])) (drop place s) ≡ get_or fs i []
  pub refused : good_by allowed_before (want_of z (j + i)) (get_or fs i []) ≡ false
  pub taken : good_by allowed (want_of z (j + i)) (get_or fs i []) ≡ true
  pub now : Behind place v'
  pub within : place < end

-- the same check, or one that is moved
abbrev FieldsBefore : List ℕ → Section → ℕ → ℕ → List (List ℕ) → Type 0
FieldsBefore s z j b fs =
    (fields_by allowed_before z j (b + 1) fs ≡ fields_by allowed z j (b + 1) fs)
    ⊎ MovedField s z j (b + 1 + length (spread 32 fs)) fs (fields_by allowed_before z j (b + 1) fs) (fields_by allowed z j (b + 1) fs)

-- a place of a list that begins with an x and f
next-stands : (s : List ℕ) (b x : ℕ) (f r : List ℕ) → drop b s ≡ x ∷ (f ++ r) → take (length f) (drop (b + 1) s) ≡ f
next-stands s b x f r e = ap (take (length f)) (sym (drop-drop 1 b s) ∙ ap (drop 1) e) ∙ take-append_seam f r

next-rest : (s : List ℕ) (b x : ℕ) (f r : List ℕ) → drop b s ≡ x ∷ (f ++ r) → drop (b + 1 + length f) s ≡ r
next-rest s b x f r e = sym (drop-drop (length f) (b + 1) s) ∙ ap (drop (length f)) (sym (drop-drop 1 b s) ∙ ap (drop 1) e) ∙ drop-append_seam f r

module _ (s : List ℕ) (z : Section) (j b : ℕ) (f : List ℕ) (fs : List (List ℕ)) where
  -- this field is good, and so it was: the next ones tell
  fields-on : good_by allowed_before (want_of z j) f ≡ true → FieldsBefore s z (j + 1) (b + 1 + length f) fs → FieldsBefore s z j b (f ∷ fs)
  unfolding fields_by spread
  fields-on g (inl e) = inl (rw (g, good-kept (want_of z j) f g) e)
  fields-on g (inr m) =
      let next : j + suc m.i ≡ j + 1 + m.i = omega arith in
      inr (record {
        place = m.place;
        was = rw g m.was;
        i = suc m.i;
        inside = omega (arith, m.inside);
        stands = m.stands;
        refused = rw next m.refused;
        taken = rw next m.taken;
        now = rw (good-kept (want_of z j) f g) m.now;
        within = rw length-append (omega (arith, m.within));
      })

  -- it was wrong, and is
  fields-wrong : good_by allowed_before (want_of z j) f ≡ false → good_by allowed (want_of z j) f ≡ false → FieldsBefore s z j b (f ∷ fs)
  unfolding fields_by
  fields-wrong g h = inl (rw (g, h))

  -- it is the one
  fields-freed : (r : List ℕ) → drop b s ≡ 32 ∷ (f ++ r) → good_by allowed_before (want_of z j) f ≡ false → good_by allowed (want_of z j) f ≡ true → FieldsBefore s z j b (f ∷ fs)
  unfolding fields_by spread
  fields-freed r e g h =
      inr (record {
        place = b + 1;
        was = rw g;
        i = 0;
        inside = zero-lt-suc (length fs);
        stands = next-stands s b 32 f r e;
        refused = rw add-zero g;
        taken = rw add-zero h;
        now = rw h (fields-behind z (b + 1) (j + 1) (b + 1 + length f + 1) fs (omega arith));
        within = omega arith;
      })

fields_before : (s : List ℕ) (z : Section) (j b : ℕ) (fs : List (List ℕ)) (tl : List ℕ) → drop b s ≡ spread 32 fs ++ tl → FieldsBefore s z j b fs
unfolding spread
fields_before s z j b [] tl e = inl (unfold fields_by in refl)
fields_before s z j b (f ∷ fs) tl e =
    let r = spread 32 fs ++ tl in
    let e' : drop b s ≡ 32 ∷ (f ++ r) = e ∙ ap (λ (x : List ℕ). 32 ∷ x) (append_assoc f (spread 32 fs) tl) in
    ⊎_elim
    (λ g. fields-on s z j b f fs g (fields_before s z (j + 1) (b + 1 + length f) fs tl (next-rest s b 32 f r e')))
    (λ g. ⊎_elim (fields-freed s z j b f fs r e' g) (fields-wrong s z j b f fs g) (decided (good_by allowed (want_of z j) f)))
    (decided (good_by allowed_before (want_of z j) f))

-- ---- a line

abbrev pub LineBefore : List ℕ → Section → ℕ → List ℕ → Type 0
LineBefore s z at l =
    (line_by allowed_before z at l ≡ line_by allowed z at l)
    ⊎ MovedField s z 0 (at + length l + 1) (fields_in l) (line_by allowed_before z at l) (line_by allowed z at l)

pub line_before : (s : List ℕ) (z : Section) (at : ℕ) (l tl : List ℕ) → drop at s ≡ l ++ tl → LineBefore s z at l
line_before s z at l tl e = ⊎_elim formed (λ q. inl (rw q)) (decided (form_of z (pieces 32 l)))
  where
    formed : form_of z (pieces 32 l) ≡ true → LineBefore s z at l
    formed q =
        let fs = fields_in l in
        let p = line-printed z l q in
        let rest : drop (at + 1) s ≡ spread 32 fs ++ tl = sym (drop-drop 1 at s) ∙ ap (drop 1) (e ∙ ap (λ (x : List ℕ). x ++ tl) p) in
        let start : at + 1 + 1 ≡ at + 2 = omega arith in
        let end : at + 2 + length (spread 32 fs) ≡ at + length l + 1 = omega (arith, ap length p) in
        rw q (rw (start, end) at (fields_before s z 0 (at + 1) fs tl rest))
