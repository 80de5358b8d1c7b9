-- The turns of the loop over a trailer's groups; what a good trailer of k groups says, and that its numbers rise to its own start; where the
-- sections lie; and that a text of the second edition has no first-edition trailer. Assumes nothing.
use Rattle.std.specs.Prelude.{◌≡◌, refl, true, false, ◌&&◌, List, eqb, length, get_or, None, Some, is_some, unwrap_or}
use Rattle.std.proofs.Common.{sym, ◌∙◌, add-zero, add-one}
use Rattle.std.proofs.Math.Bool.{Bool, and-false}
use Rattle.std.proofs.Math.Logic.{⊎_elim}
use Prim.Native.Nat.{ℕ, zero, suc, ◌+◌, ◌-◌, ◌*◌, ◌≤◌, ◌<◌}
use native.Mathlib.Omega.{arith}
use Rattle.std.proofs.Math.Dec.{leb}
use borrow.Author.Tests.{eqb-true, leb-true, le-leb, lt-leb}
use Rattle.real.specs.Tests.{and_left, and_right, nor-left, nor-right, decided, no-case}
use Rattle.rows.specs.declared.Section.{Section}
use Rattle.trailer.specs.Trailer.{groups_of, trailer_length, trailer_start, group_at, start_at, group_number, rising_of, flat_letter, case_letter, flagged, mode_of, asked_of, edition_of, trailer_by, trailer_of, index_of, behind_g, last_of, Starts, section_start, section_end}
use Rattle.starts.specs.declared.AcStart.TheVariants.{Case}
use Rattle.trailer.specs.declared.Edition.{Edition}
use Rattle.trailer.specs.declared.Edition.TheVariants.{First, Second}

-- ---- the loop over the groups

module _ (k : ℕ) (s : List ℕ) (at low end : ℕ) where
  pub rising-end : k ≤ 0 → rising_of k s at low end ≡ eqb low end
  unfolding rising_of
  rising-end h = let q : k ≡ 0 = omega arith in rw q

  module _ (h : 0 < k) where
    one_more : k ≡ suc (k - 1)
    one_more = omega arith

    pub rising-wrong : group_at s at ≡ None → rising_of k s at low end ≡ false
    unfolding rising_of
    rising-wrong g = rw (one_more, g)

    pub rising-falls : (m : ℕ) → group_at s at ≡ Some m → m < low → rising_of k s at low end ≡ false
    unfolding rising_of
    rising-falls m g l = rw (one_more, g, lt-leb low m l)

    pub rising-on : (m : ℕ) → group_at s at ≡ Some m → low ≤ m → rising_of k s at low end ≡ rising_of (k - 1) s (at + 6) m end
    unfolding rising_of
    rising-on m g l = let q : suc (k - 1) - 1 ≡ k - 1 = omega arith in rw (one_more, g, le-leb low m l, q)

-- ---- what a good trailer says

-- a group, and that its number is not below the one before
pub record Group (s : List ℕ) (at low : ℕ) : Type 0 where
  pub number : is_some (group_at s at) ≡ true
  pub rises : low ≤ start_at s at

module _ (k : ℕ) (s : List ℕ) (at low end : ℕ) (h : rising_of (suc k) s at low end ≡ true) where
  pub first_group : Group s at low
  unfolding rising_of
  first_group = record {
    number = and_left _ _ h;
    rises = leb-true low (start_at s at) (and_left _ _ (and_right (is_some (group_at s at)) _ h));
  }

  pub groups-after : (to : ℕ) → at + 6 ≡ to → rising_of k s to (start_at s at) end ≡ true
  unfolding rising_of
  groups-after to q = rw (← q) (and_right (leb low (start_at s at)) _ (and_right (is_some (group_at s at)) _ h))

-- behind group j of k that rise, counted from 0, the others rise from its number on
groups-behind : (k j : ℕ) (s : List ℕ) (at low end : ℕ) → rising_of k s at low end ≡ true → j < k
    → rising_of (k - (j + 1)) s (at + 6 * (j + 1)) (start_at s (at + 6 * j)) end ≡ true
groups-behind k zero s at low end h i =
    let q : k ≡ suc (k - 1) = omega arith in
    rw add-zero (groups-after (k - 1) s at low end (rw q at h) (at + 6) refl)
groups-behind k (suc j) s at low end h i =
    let q : k - (j + 1) ≡ suc (k - (j + 1 + 1)) = omega arith in
    let e : at + 6 * (j + 1) + 6 ≡ at + 6 * (j + 1 + 1) = omega arith in
    let g = rw q at (groups-behind k j s at low end h (omega arith)) in
    rw (← add-one j) (groups-after (k - (j + 1 + 1)) s (at + 6 * (j + 1)) _ end g (at + 6 * (j + 1 + 1)) e)

-- the number that groups rise from is at most the last
low-at-most-end : (k : ℕ) (s : List ℕ) (at low end : ℕ) → rising_of k s at low end ≡ true → low ≤ end
unfolding rising_of
low-at-most-end zero s at low end h = let e = eqb-true low end h in omega arith
low-at-most-end (suc k) s at low end h =
    let g = (first_group k s at low end h).rises in
    let r = low-at-most-end k s (at + 6) (start_at s at) end (groups-after k s at low end h (at + 6) refl) in
    omega arith

-- what stands behind the flag of a good trailer of k groups
pub record GoodTrailer (k : ℕ) (s : List ℕ) (t : ℕ) : Type 0 where
  pub end : get_or s (t + 1 + 6 * k) 0 ≡ 10
  pub zero_first : group_number s t 0 ≡ 0
  pub groups_rise : rising_of k s (t + 1) 0 t ≡ true

pub behind-flag : (k : ℕ) (s : List ℕ) (t : ℕ) → trailer_by k s t ≡ true → GoodTrailer k s t
behind-flag k s t h =
    let f = and_right (eqb (get_or s (t + 1 + 6 * k) 0) 10) _ h in
    record {
      end = eqb-true (get_or s (t + 1 + 6 * k) 0) 10 (and_left _ _ h);
      zero_first = eqb-true (group_number s t 0) 0 (and_left _ _ f);
      groups_rise = and_right (eqb (group_number s t 0) 0) _ f;
    }

-- the numbers of its groups never fall, none is above the trailer's start, and the last is it
pub record Rising (k : ℕ) (s : List ℕ) (t : ℕ) : Type 0 where
  pub never_fall : (j : ℕ) → j + 1 < k → group_number s t j ≤ group_number s t (j + 1)
  pub inside : (j : ℕ) → j < k → group_number s t j ≤ t
  pub last : (j : ℕ) → j + 1 ≡ k → group_number s t j ≡ t

-- where no group is left, the number that they rose to is the last
none_left : (k : ℕ) (s : List ℕ) (at low end : ℕ) → k ≡ 0 → rising_of k s at low end ≡ true → low ≡ end
none_left k s at low end q h = eqb-true low end (sym (rising-end k s at low end (omega arith)) ∙ h)

pub rising : (k : ℕ) (s : List ℕ) (t : ℕ) → GoodTrailer k s t → Rising k s t
rising k s t w = record {
  never_fall = λ j h. let q : k - (j + 1) ≡ suc (k - (j + 2)) = omega arith in (first_group (k - (j + 2)) s _ _ t (rw q at (from j (omega arith)))).rises;
  inside = λ j h. low-at-most-end _ s _ _ t (from j h);
  last = λ j h. none_left _ s _ _ t (omega arith) (from j (omega arith));
}
  where
    from : (j : ℕ) → j < k → rising_of (k - (j + 1)) s (t + 1 + 6 * (j + 1)) (group_number s t j) t ≡ true
    from j h = groups-behind k j s (t + 1) 0 t w.groups_rise h

-- ---- an edition's trailer

module _ (e : Edition) (s : List ℕ) (t : ℕ) (h : trailer_of e s t ≡ true) where
  pub good-trailer : GoodTrailer (groups_of e) s t
  unfolding trailer_of
  good-trailer = behind-flag (groups_of e) s t (and_right (flagged e (get_or s t 0)) _ h)

-- the sections that both editions have, the one behind G and the last one have their starts in the trailer
pub starts-b : (e : Edition) → Starts e Section.B
starts-b First = omega arith
starts-b Second = omega arith

pub starts-r : (e : Edition) → Starts e Section.R
starts-r First = omega arith
starts-r Second = omega arith

pub starts-g : (e : Edition) → Starts e Section.G
starts-g First = omega arith
starts-g Second = omega arith

pub starts-behind-g : (e : Edition) → Starts e (behind_g e)
starts-behind-g First = omega arith
starts-behind-g Second = omega arith

pub starts-last : (e : Edition) → Starts e (last_of e)
starts-last First = omega arith
starts-last Second = omega arith

-- G ends where the section behind it starts
pub g-meets : (e : Edition) (s : List ℕ) (t : ℕ) → section_end Section.G s t ≡ section_start (behind_g e) s t
g-meets First s t = refl
g-meets Second s t = refl

-- where each section lies
pub record Within (a e n : ℕ) : Type 0 where
  pub ordered : a ≤ e
  pub inside : e ≤ n

pub within : (e : Edition) (s : List ℕ) (t : ℕ) → trailer_of e s t ≡ true → (z : Section) → Starts e z → Within (section_start z s t) (section_end z s t) t
within e s t h z b =
    let w = rising (groups_of e) s t (good-trailer e s t h) in
    record { ordered = w.never_fall (index_of z) b; inside = w.inside (index_of z + 1) b }

-- ---- which flag, and which edition

-- no other byte is the letter of a flat start
pub asked-mode : (e : Edition) (b : ℕ) → unwrap_or (asked_of e b) Case ≡ mode_of e b
asked-mode e b = ⊎_elim (λ q. rw q) (λ q. rw (nor-left (eqb b (flat_letter e)) (eqb b (case_letter e)) q, nor-right (eqb b (flat_letter e)) (eqb b (case_letter e)) q)) (decided (flagged e b))

pub asked-flagged : (e : Edition) (b : ℕ) → is_some (asked_of e b) ≡ flagged e b
asked-flagged e b = ⊎_elim (λ q. rw q) (λ q. rw q) (decided (flagged e b))

module _ (s : List ℕ) where
  abbrev letter : ℕ
  letter = get_or s (trailer_start Second s) 0

  pub edition-second : trailer_length Second ≤ length s → flagged Second letter ≡ true → edition_of s ≡ Second
  unfolding edition_of
  edition-second h f = rw (le-leb _ _ h, f)

  pub edition-unflagged : flagged Second letter ≡ false → edition_of s ≡ First
  unfolding edition_of
  edition-unflagged f = rw (f, and-false (leb (trailer_length Second) (length s)))

  pub edition-short : length s < trailer_length Second → edition_of s ≡ First
  unfolding edition_of
  edition-short h = rw (lt-leb _ _ h)

  -- a text of the second edition has that letter
  pub second-tells : edition_of s ≡ Second → (trailer_length Second ≤ length s) × (flagged Second letter ≡ true)
  unfolding edition_of
  second-tells h = ⊎_elim (λ q. (leb-true _ _ (and_left _ _ q), and_right (leb (trailer_length Second) (length s)) _ q)) other (decided test)
    where
      test : Bool
      test = leb (trailer_length Second) (length s) && flagged Second letter

      other : test ≡ false → (trailer_length Second ≤ length s) × (flagged Second letter ≡ true)
      other q = let k : First ≡ Second = rw q at h in no-case cc
