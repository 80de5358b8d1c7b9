-- A refusal has its number and place in 01's table and is handed on by everything that follows it; a good section leads on. Assumes nothing.
use Rattle.std.specs.Prelude.{Ok, Err}
use mathlib.Core.Path.{◌≡◌, refl}
use mathlib.Core.Bool.{cond}
use mathlib.Core.List.{[], ◌∷◌}
use Prim.Native.Nat.{ℕ, ◌<◌}
use native.Mathlib.Omega.{arith}
use lib.Dec.{eqb}
use Rattle.real.specs.declared.Value.TheVariants.{Whole}
use Rattle.real.specs.Paper.{refused}
use Rattle.rows.specs.declared.Fault.{Fault}
use Rattle.rows.specs.Rows.{Check}
use Rattle.case_text.specs.Text.{Reading, then_section, refusal_of}
use Rattle.case_text.specs.Answer.{with_room, result_of, read_result, paper_of}
use Rattle.network.specs.declared.Rows.{Rows}
use Rattle.case_text.specs.declared.Contents.{Contents}
use Rattle.case_text.specs.declared.Refusal.{Refusal}

-- ---- a section's

-- what a section's refusal is of the text
abbrev pub section_refusal : Check → Reading
section_refusal v = then_section v (λ n. Err Refusal.Room)

pub refusal : (v : Check) (k : ℕ → Reading) → ((n : ℕ) → v ≡ Ok n → ⊥) → then_section v k ≡ section_refusal v
refusal (Ok n) k h = absurd (h n refl)
refusal (Err f) k h = refl

pub on-fault : {v : Check} {f : Fault} (k : ℕ → Reading) → Err f ≡ v → then_section v k ≡ Err (refusal_of f)
on-fault k h = rw (← h)

-- a good one leads on, with its rows
pub on-good : {v : Check} {n : ℕ} (k : ℕ → Reading) → Ok n ≡ v → then_section v k ≡ k n
on-good k h = rw (← h)

-- ---- the text's

abbrev pub Refused : Reading → Type 0
Refused v = (c : Contents) → v ≡ Ok c → ⊥

-- 01's table of it: its number, and the place beside all but 9
pub refused-paper : (v : Reading) → Refused v → (n : ℕ) × (at : ℕ) × (0 < n) × (paper_of v ≡ refused n (cond (eqb n 9) [] (Whole at ∷ [])))
refused-paper (Ok c) h = absurd (h c refl)
refused-paper (Err (Refusal.Length at)) h = (1, at, omega arith, refl)
refused-paper (Err (Refusal.Trailer at)) h = (2, at, omega arith, refl)
refused-paper (Err (Refusal.Byte at)) h = (3, at, omega arith, refl)
refused-paper (Err (Refusal.Rows at)) h = (6, at, omega arith, refl)
refused-paper (Err (Refusal.Form at)) h = (4, at, omega arith, refl)
refused-paper (Err (Refusal.Field at)) h = (5, at, omega arith, refl)
refused-paper (Err Refusal.Room) h = (9, 0, omega arith, refl)

-- refusal 9 does not come before it
pub no_room : (v : Reading) (m : Rows) → Refused v → with_room v m ≡ v
no_room (Ok c) m h = absurd (h c refl)
no_room (Err f) m h = refl

-- and the columns stay as they were
pub untouched : {T : Type 0} (v : Reading) (new old : T) → Refused v → result_of v new old ≡ read_result (paper_of v) old
untouched (Ok c) new old h = absurd (h c refl)
untouched (Err f) new old h = refl
