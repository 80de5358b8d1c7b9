-- What `round` gives is the nearest double, ties to even: for each fraction that does not round to an infinity, so for each up to 2 ^ 53.
-- The work is done in units of the format's smallest value: a / b is n / b of them, with n = a * 2 ^ low, and every finite value is a whole number of them.
-- `round` keeps q = kept p n b and drops k = drop p n b digits, so it gives q * 2 ^ k units. Assumes nothing.
use Rattle.std.specs.Prelude.{◌≡◌, refl, ◌⊎◌, Bool, true, false, not, ◌&&◌, cond, ℤ, pos, negsuc, T, eqb, leb, ltb, Float}
use Rattle.std.proofs.Common.{sym, ap, ◌∙◌, subst, inl, inr, le_trans, le_of_eq, lt_of_lt_of_le, lt_of_le_of_lt, lt_of_not-le, lt_irrefl, le_of_suc-le-suc, eq-or-lt_of_le, zero-lt-suc, lt-suc_self, mod-lt, zero-mul, mul-one, one-mul, suc-mul, mul_comm, mul_assoc, mul_right_comm, add-mul, mul-pos, mul-le-mul, mul-le-mul_right, le_of_mul-le-mul_right, mul-lt-mul_of_pos_right, le-div_iff_mul-le, mul-div_cancel, div-add-mod', div-lt_iff_lt-mul, arith, leb→le, eqb→eq, ltb→lt, lit<, pow-add, pow_pos, pow_mono, shl_lt}
use Prim.Native.Nat.{ℕ, zero, suc, ◌+◌, ◌-◌, ◌*◌, ◌/◌, ◌%◌, ◌^◌, ◌≤◌, ◌<◌, zero-le, compare, Ordering}
use Rattle.std.proofs.Math.Nat.{mul-sub, mul-mod_left, div-div-eq-div-mul, pow-succ'}
use Rattle.std.proofs.Math.Dec.{is_le, compare_is_eq, nleb→lt, eqb_refl}
use Rattle.std.proofs.Math.Arith.{lt_of_le-ne}
use Rattle.std.proofs.Math.Pow.{pow-lt}
use Rattle.std.specs.Float.{nan, inf, fin, Format, binary32, binary64}
use Rattle.std.specs.Float.Ieee.{prec, emax, low, up, down, size, nearest, round, fits, hid, ones, of_bits, to_bits}
use Rattle.std.specs.Float.Ieee.Digits.{back, size-le, size_reaches}
use Rattle.std.specs.Float.Ieee.Fits.{two, two-le_pos, nearest-le, kept-lt, and_l, and_r, down_pos, round_is, round-fits}
use Rattle.std.specs.Float.Ieee.Exact.{HasValue, units_val}
use Rattle.std.specs.Float.Ieee.Nearest.{closest}
use Rattle.std.specs.Float.Ieee.Order.{drop, kept, transfer}
use Rattle.std.specs.Float.Ieee.Scale.{grid, overflow}
use Rattle.std.specs.Float.Ieee.Positive.{den}
use Rattle.std.specs.Float.Ieee.Bits.{of_bits-to_bits}
use Rattle.real.specs.Tests.{below_or}
use Rattle.real.specs.Nearest.{Finite, apart, distance, NearestDouble}

-- ---- how far two numbers lie apart

abbrev gap : ℕ → ℕ → ℕ
gap p q = (p - q) + (q - p)

-- the distance d is no larger than e, and where the two are equal, P holds
abbrev Ahead : ℕ → ℕ → Type 0 → Type 0
Ahead d e P = (d ≤ e) × (e ≤ d → P)

-- ---- the number that `closest` picks, among all whole numbers

-- what `compare` says
abbrev Cmp : Ordering → ℕ → ℕ → Type 0
Cmp Ordering.lt a b = a < b
Cmp Ordering.eq a b = a ≡ b
Cmp Ordering.gt a b = b < a

cmp : (a b : ℕ) → Cmp (compare a b) a b
cmp a b = go (compare a b) (leb→le a b) (nleb→lt a b) (eqb→eq a b) (λ (e : a ≡ b). subst (λ (x : ℕ). T (eqb a x)) e (eqb_refl a))
  where
    go : (o : Ordering) → (T (is_le o) → a ≤ b) → (T (not (is_le o)) → b < a) → (T (compare_is_eq o) → a ≡ b) → (a ≡ b → T (compare_is_eq o)) → Cmp o a b
    go Ordering.lt h k e n = lt_of_le-ne (h tt) n
    go Ordering.eq h k e n = e tt
    go Ordering.gt h k e n = k tt

-- q * u is half a u away from n at most; where it is half a u away, q is even
abbrev Half : ℕ → ℕ → ℕ → Type 0
Half q u n = (gap (q * u) n * 2 ≤ u) × (gap (q * u) n * 2 ≡ u → q % 2 ≡ 0)

-- of a tie, with e the last digit of w
tie-half : (e w r u n : ℕ) → e ≤ 1 → w * u + r ≡ n → r * 2 ≡ u → gap ((w + e) * u) n * 2 ≤ u
tie-half zero w r u n E h t = let x = add-mul w 0 u in omega arith
tie-half (suc zero) w r u n E h t = let x = add-mul w 1 u in omega arith
tie-half (suc (suc e)) w r u n E h t = omega arith

-- w * u + r is n, and o says how r compares with half a u
nearest-half : (o : Ordering) (w r u n : ℕ) → w * u + r ≡ n → r < u → Cmp o (r * 2) u → Half (nearest w o) u n
nearest-half Ordering.lt w r u n h R c = (omega arith, λ t. omega arith)
nearest-half Ordering.eq w r u n h R c = (tie-half (w % 2) w r u n (omega arith) h c, λ t. omega arith)
nearest-half Ordering.gt w r u n h R c = let e : suc w * u ≡ w * u + u = suc-mul w u in (omega arith, λ t. omega arith)

closest-half : (n u : ℕ) → 0 < u → Half (closest n u) u n
closest-half n u U = nearest-half (compare (n % u * 2) u) (n / u) (n % u) u n (div-add-mod' n u) (mod-lt n U) (cmp (n % u * 2) u)

less-by-one : (i j u : ℕ) → i < j → i * u + u ≤ j * u
less-by-one i j u h = le_trans (le_of_eq (sym (suc-mul i u))) (mul-le-mul_right u h)

-- no multiple of u is nearer to n; and where another one is as near, q is even
multiple-ahead : (q i u n : ℕ) → Half q u n → Ahead (gap (q * u) n) (gap (i * u) n) ((i ≡ q) ⊎ (q % 2 ≡ 0))
multiple-ahead q i u n h = go (compare i q) (cmp i q)
  where
    go : (o : Ordering) → Cmp o i q → Ahead (gap (q * u) n) (gap (i * u) n) ((i ≡ q) ⊎ (q % 2 ≡ 0))
    go Ordering.lt c = let l = less-by-one i q u c in (omega arith, λ t. inr (h.1 (omega arith)))
    go Ordering.eq c = (le_of_eq (ap (λ (x : ℕ). gap (x * u) n) (sym c)), λ t. inl c)
    go Ordering.gt c = let l = less-by-one q i u c in (omega arith, λ t. inr (h.1 (omega arith)))

-- ---- the same, among all numbers m * 2 ^ j with an m of at most p digits

unit : (q t b : ℕ) → q * t * b ≡ q * (b * t)
unit q t b = mul_assoc q t b ∙ ap (λ (x : ℕ). q * x) (mul_comm t b)

-- a number that has the k dropped digits too
pub shifted : (m j k : ℕ) → k ≤ j → m * 2 ^ j ≡ m * 2 ^ (j - k) * 2 ^ k
shifted m j k h = sym (mul_assoc m (2 ^ (j - k)) (2 ^ k) ∙ ap (λ (x : ℕ). m * x) (sym (pow-add 2 (j - k) k) ∙ ap (λ (x : ℕ). 2 ^ x) (back j k h)))

-- where digits are dropped, n / b has all p digits and the dropped ones
whole-digits : (p n b : ℕ) → 0 < p → 0 < b → 0 < drop p n b → 2 ^ (p - 1) * (b * 2 ^ drop p n b) ≤ n
whole-digits p n b P B K =
    let k = drop p n b in
    le_trans (le_of_eq (sym (unit (2 ^ (p - 1)) (2 ^ k) b) ∙ ap (λ (x : ℕ). x * b) (sym (pow-add 2 (p - 1) k))))
    ((le-div_iff_mul-le B).0 (size_reaches (n / b) (p - 1 + k) (in_use (size (n / b)) p P K)))
  where
    in_use : (z p : ℕ) → 0 < p → 0 < z - p → p - 1 + (z - p) < z
    in_use z p P h = omega arith

-- m * 2 ^ j with fewer digits below is less than the least number of p digits and k dropped ones
lower : (p b m j k : ℕ) → 0 < p → 0 < b → m < 2 ^ p → j < k → m * 2 ^ j * b < 2 ^ (p - 1) * (b * 2 ^ k)
lower p b m j k P B M h =
    lt_of_lt_of_le (mul-lt-mul_of_pos_right (shl_lt p j M) B)
    (le_trans (mul-le-mul_right b (pow_mono (room p j k P h))) (le_of_eq (ap (λ (x : ℕ). x * b) (pow-add 2 (p - 1) k) ∙ unit (2 ^ (p - 1)) (2 ^ k) b)))
  where
    room : (p j k : ℕ) → 0 < p → j < k → p + j ≤ p - 1 + k
    room p j k P h = omega arith

-- no such number is nearer to n / b than the rounded one; and where another one is as near, the kept number is even
value-ahead : (p n b m j : ℕ) → 0 < p → 0 < b → m < 2 ^ p
    → Ahead (gap (kept p n b * 2 ^ drop p n b * b) n) (gap (m * 2 ^ j * b) n) ((m * 2 ^ j ≡ kept p n b * 2 ^ drop p n b) ⊎ (kept p n b % 2 ≡ 0))
value-ahead p n b m j P B M = rw (unit q (2 ^ k) b) (elim (below_or j k) [ inl h ↦ below h | inr h ↦ among h ])
  where
    k : ℕ
    k = drop p n b

    q : ℕ
    q = kept p n b

    near : (i : ℕ) → Ahead (gap (q * (b * 2 ^ k)) n) (gap (i * (b * 2 ^ k)) n) ((i ≡ q) ⊎ (q % 2 ≡ 0))
    near i = multiple-ahead q i (b * 2 ^ k) n (closest-half n (b * 2 ^ k) (mul-pos B (pow_pos k)))

    among : k ≤ j → Ahead (gap (q * (b * 2 ^ k)) n) (gap (m * 2 ^ j * b) n) ((m * 2 ^ j ≡ q * 2 ^ k) ⊎ (q % 2 ≡ 0))
    among h =
        let i = m * 2 ^ (j - k) in
        let e : m * 2 ^ j ≡ i * 2 ^ k = shifted m j k h in
        let w : m * 2 ^ j * b ≡ i * (b * 2 ^ k) = ap (λ (x : ℕ). x * b) e ∙ unit i (2 ^ k) b in
        rw w ((near i).0, λ t. elim ((near i).1 t) [ inl c ↦ inl (e ∙ ap (λ (x : ℕ). x * 2 ^ k) c) | inr v ↦ inr v ])

    below : j < k → Ahead (gap (q * (b * 2 ^ k)) n) (gap (m * 2 ^ j * b) n) ((m * 2 ^ j ≡ q * 2 ^ k) ⊎ (q % 2 ≡ 0))
    below h =
        let z = (near (2 ^ (p - 1))).0 in
        let f = whole-digits p n b P B (lt_of_le_of_lt zero-le h) in
        let l = lower p b m j k P B M h in
        (omega arith, λ t. absurd (omega arith))

-- zero is as near as the rounded number only where the kept number is even
zero-ahead : (p n b : ℕ) → 0 < p → 0 < b → Ahead (gap (kept p n b * 2 ^ drop p n b * b) n) n (kept p n b % 2 ≡ 0)
zero-ahead p n b P B =
    let z = value-ahead p n b 0 0 P B (pow_pos p) in
    let e : 0 * b ≡ 0 = zero-mul b in
    (omega arith, λ t. elim (z.1 (omega arith)) [ inl c ↦ no-digits (kept p n b) (drop p n b) c | inr v ↦ v ])
  where
    no-digits : (q k : ℕ) → 0 ≡ q * 2 ^ k → q % 2 ≡ 0
    no-digits zero k e = refl
    no-digits (suc q) k e = absurd (lt_irrefl 0 (subst (λ (x : ℕ). 0 < x) (sym e) (mul-pos (zero-lt-suc q) (pow_pos k))))

-- the same with signs: a number of the other sign is no nearer than zero
signed-ahead : (s t : Bool) (x y n : ℕ) {A E : Type 0} → Ahead (gap x n) n E → Ahead (gap x n) (gap y n) (A ⊎ E) → Ahead (apart s x s n) (apart t y s n) (((s ≡ t) × A) ⊎ E)
signed-ahead true true x y n z h = (h.0, λ t. elim (h.1 t) [ inl a ↦ inl (refl, a) | inr e ↦ inr e ])
signed-ahead true false x y n z h = (omega arith, λ t. inr (z.1 (omega arith)))
signed-ahead false true x y n z h = (omega arith, λ t. inr (z.1 (omega arith)))
signed-ahead false false x y n z h = (h.0, λ t. elim (h.1 t) [ inl a ↦ inl (refl, a) | inr e ↦ inr e ])

-- ---- values in units

pow_le_back : (a l : ℕ) → 2 ^ a ≤ 2 ^ l → a ≤ l
pow_le_back a l h = le_of_suc-le-suc (lt_of_not-le (λ (g : suc l ≤ a). lt_irrefl (2 ^ l) (lt_of_lt_of_le (pow-lt g) h)))

-- 2 ^ e is 2 ^ j units
place : (l : ℕ) (e : ℤ) → down e ≤ 2 ^ l → (j : ℕ) × (up e * 2 ^ l ≡ 2 ^ j * down e)
place l (pos a) h = (a + l, sym (pow-add 2 a l) ∙ sym (mul-one (2 ^ (a + l))))
place l (negsuc a) h =
    (l - suc a, one-mul (2 ^ l) ∙ ap (λ (x : ℕ). 2 ^ x) (sym (back l (suc a) (pow_le_back (suc a) l h))) ∙ pow-add 2 (l - suc a) (suc a))

-- a value that the format holds is m * 2 ^ j units, m of at most prec digits, and lies below 2 ^ (emax + 1)
pub in-units : (f : Format) (s : Bool) (m : ℕ) (e : ℤ) → T (fits f (fin s m e))
    → (j : ℕ) × (m < 2 ^ prec f) × (m * up e * 2 ^ low f ≡ m * 2 ^ j * down e) × (m * up e < 2 ^ suc (emax f) * down e)
unfolding fits
in-units f s zero e h = (0, pow_pos (prec f), simp zero-mul, simp zero-mul (mul-pos (pow_pos (suc (emax f))) (down_pos e)))
in-units f s (suc m) e h =
    let A = eqb (suc m % 2) 1 in
    let B = ltb (suc m) (2 ^ prec f) in
    let C = leb (down e) (2 ^ low f) in
    let D = ltb (suc m * up e) (2 ^ suc (emax f) * down e) in
    let t : T (A && B && C) = and_l (A && B && C) D h in
    let z = place (low f) e (leb→le (down e) (2 ^ low f) (and_r (A && B) C t)) in
    let v : suc m * up e * 2 ^ low f ≡ suc m * 2 ^ z.0 * down e = mul_assoc (suc m) (up e) (2 ^ low f) ∙ ap (λ (x : ℕ). suc m * x) z.1 ∙ sym (mul_assoc (suc m) (2 ^ z.0) (down e)) in
    (z.0, ltb→lt (suc m) (2 ^ prec f) (and_r A B (and_l (A && B) C t)), v, ltb→lt (suc m * up e) (2 ^ suc (emax f) * down e) (and_r (A && B && C) D h))

gap-mul : (p q c : ℕ) → gap p q * c ≡ gap (p * c) (q * c)
gap-mul p q c = simp (add-mul, mul_comm, mul-sub)

apart-mul : (s t : Bool) (p q c : ℕ) → apart s p t q * c ≡ apart s (p * c) t (q * c)
apart-mul true true p q c = gap-mul p q c
apart-mul true false p q c = add-mul p q c
apart-mul false true p q c = add-mul p q c
apart-mul false false p q c = gap-mul p q c

-- the distance of a value of w units, in units
pub distance-units : (x : Float) (t s : Bool) (a b l w : ℕ) → HasValue x t w l → distance x s a b * l ≡ apart t (w * b) s (a * l) * den x
distance-units nan t s a b l w h = absurd h
distance-units (inf r) t s a b l w h = absurd h
distance-units (fin r m e) t s a b l w h =
    apart-mul r s (m * up e * b) (a * down e) l
    ∙ ap (λ (x : ℕ). apart r x s (a * down e * l)) (mul_right_comm (m * up e) b l ∙ ap (λ (x : ℕ). x * b) h.1 ∙ mul_right_comm w (down e) b)
    ∙ ap (λ (x : ℕ). apart r (w * b * down e) s x) (mul_right_comm a (down e) l)
    ∙ sym (apart-mul r s (w * b) (a * l) (down e))
    ∙ ap (λ (u : Bool). apart u (w * b) s (a * l) * down e) h.0

-- ---- the bits of a value of w units

abbrev written : Format → Bool → ℕ → ℕ
written f s w = cond s (hid f * suc (ones f)) 0 + (size w - prec f) * hid f + w / 2 ^ (size w - prec f)

bits_are : (f : Format) (x : Float) (s : Bool) (w : ℕ) → HasValue x s w (2 ^ low f) → to_bits f x ≡ written f s w
unfolding to_bits
bits_are f nan s w h = absurd h
bits_are f (inf t) s w h = absurd h
bits_are f (fin t m e) s w h = ap (written f t) (ap (λ (x : ℕ). x / down e) h.1 ∙ mul-div_cancel w (down_pos e)) ∙ ap (λ (r : Bool). written f r w) h.0

-- so two values of one sign and one number of units are the same
pub same-value : (f : Format) (x y : Float) (s : Bool) (w : ℕ) → T (fits f x) → T (fits f y) → HasValue x s w (2 ^ low f) → HasValue y s w (2 ^ low f) → x ≡ y
same-value f x y s w F G h k = sym (of_bits-to_bits f x F) ∙ ap (of_bits f) (bits_are f x s w h ∙ sym (bits_are f y s w k)) ∙ of_bits-to_bits f y G

pub times-even : (x y : ℕ) → y % 2 ≡ 0 → x * y % 2 ≡ 0
times-even x y h = let e : y ≡ y / 2 * 2 = omega arith in ap (λ (z : ℕ). x * z % 2) e ∙ ap (λ (z : ℕ). z % 2) (sym (mul_assoc x (y / 2) 2)) ∙ mul-mod_left (x * (y / 2)) 2

hid-even : (f : Format) → hid f % 2 ≡ 0
hid-even binary32 = refl
hid-even binary64 = refl

twice_hid : (f : Format) → 2 ^ prec f ≡ hid f * 2
twice_hid binary32 = refl
twice_hid binary64 = refl

-- the last bit is the last digit that is kept
pub last_bit : (f : Format) (x : Float) (s : Bool) (w : ℕ) → HasValue x s w (2 ^ low f) → to_bits f x % 2 ≡ w / 2 ^ (size w - prec f) % 2
last_bit f x s w h =
    let k = size w - prec f in
    ap (λ (n : ℕ). n % 2) (bits_are f x s w h) ∙ only-last (cond s (hid f * suc (ones f)) 0) (k * hid f) (w / 2 ^ k) (sign s) (times-even k (hid f) (hid-even f))
  where
    sign : (s : Bool) → cond s (hid f * suc (ones f)) 0 % 2 ≡ 0
    sign true = ap (λ (x : ℕ). x % 2) (mul_comm (hid f) (suc (ones f))) ∙ times-even (suc (ones f)) (hid f) (hid-even f)
    sign false = refl

    only-last : (a b c : ℕ) → a % 2 ≡ 0 → b % 2 ≡ 0 → (a + b + c) % 2 ≡ c % 2
    only-last a b c A B = omega arith

-- a number of p digits and j zeros: only zeros are dropped
pub drops-zeros : (p r j : ℕ) → r < 2 ^ p → size (r * 2 ^ j) - p ≤ j
drops-zeros p r j R = spare (size (r * 2 ^ j)) p j (size-le (r * 2 ^ j) (p + j) (shl_lt p j R))
  where
    spare : (z p j : ℕ) → z ≤ p + j → z - p ≤ j
    spare z p j h = omega arith

-- r * 2 ^ j units with an even r that the format has room for: the last bit is 0
even-bits : (f : Format) (x : Float) (s : Bool) (r j : ℕ) → r < 2 ^ prec f → r % 2 ≡ 0 → HasValue x s (r * 2 ^ j) (2 ^ low f) → to_bits f x % 2 ≡ 0
even-bits f x s r j R E h =
    let w = r * 2 ^ j in
    let k = size w - prec f in
    let cut : w / 2 ^ k ≡ r * 2 ^ (j - k) = ap (λ (x : ℕ). x / 2 ^ k) (shifted r j k (drops-zeros (prec f) r j R)) ∙ mul-div_cancel (r * 2 ^ (j - k)) (pow_pos k) in
    last_bit f x s w h ∙ ap (λ (x : ℕ). x % 2) (cut ∙ mul_comm r (2 ^ (j - k))) ∙ times-even (2 ^ (j - k)) r E

kept-le : (p n b : ℕ) → kept p n b ≤ 2 ^ p
kept-le p n b =
    let k = drop p n b in
    let u = b * 2 ^ k in
    le_trans (nearest-le (n / u) (compare (n % u * 2) u)) (subst (λ (x : ℕ). x < 2 ^ p) (div-div-eq-div-mul n b (2 ^ k)) (kept-lt p (n / b)))

-- where the kept number is even the last bit is 0, also where rounding up made it a digit longer
kept-even-bits : (f : Format) (x : Float) (s : Bool) (q k : ℕ) → q ≤ 2 ^ prec f → q % 2 ≡ 0 → HasValue x s (q * 2 ^ k) (2 ^ low f) → to_bits f x % 2 ≡ 0
kept-even-bits f x s q k Q E h = elim (eq-or-lt_of_le Q) [
  | inl c ↦
      even-bits f x s (hid f) (suc k) (subst (λ (n : ℕ). hid f < n) (sym (twice_hid f)) (double (hid f) (pow_pos (prec f - 1)))) (hid-even f)
      (subst (λ (w : ℕ). HasValue x s w (2 ^ low f)) (ap (λ (n : ℕ). n * 2 ^ k) (c ∙ twice_hid f) ∙ mul_assoc (hid f) 2 (2 ^ k) ∙ ap (λ (n : ℕ). hid f * n) (sym (pow-succ' 2 k))) h)
  | inr l ↦ even-bits f x s q k l E h
]
  where
    double : (x : ℕ) → 0 < x → x < x * 2
    double x h = omega arith

-- ---- the rounded value against another

-- two distances in units, and as fractions, each times the other's `den`
fractions-ahead : (dx dy bx by l ex ey : ℕ) {P : Type 0} → 0 < l → 0 < bx → 0 < by → dx * l ≡ ex * bx → dy * l ≡ ey * by → Ahead ex ey P → Ahead (dx * by) (dy * bx) P
fractions-ahead dx dy bx by l ex ey L X Y h k z =
    (transfer dx dy bx by ex ey l l L L h k (mul-le-mul_right l z.0), λ t. z.1 (le_of_mul-le-mul_right (transfer ey ex l l dy dx by bx Y X (sym k) (sym h) t) L))

-- Where x = fin s m e has the sign and the units that `round` gives a / b: no y = fin t n d is nearer, and where one is as near, it is x itself, or the last bit of x is 0.
rounded-ahead : (f : Format) (s : Bool) (m : ℕ) (e : ℤ) (a b : ℕ) → 0 < b → T (fits f (fin s m e)) → m * up e * 2 ^ low f ≡ grid f a b * down e
    → (t : Bool) (n : ℕ) (d : ℤ) → T (fits f (fin t n d))
    → Ahead (distance (fin s m e) s a b * down d) (distance (fin t n d) s a b * down e) ((fin s m e ≡ fin t n d) ⊎ (to_bits f (fin s m e) % 2 ≡ 0))
rounded-ahead f s m e a b B F v t n d h =
    let p = prec f in
    let P = two-le_pos p (two f) in
    let l = 2 ^ low f in
    let c = a * l in
    let y = in-units f t n d h in
    let w = n * 2 ^ y.0 in
    let z = signed-ahead s t (grid f a b * b) (w * b) c (zero-ahead p c b P B) (value-ahead p c b n y.0 P B y.1) in
    let r = fractions-ahead (distance (fin s m e) s a b) (distance (fin t n d) s a b) (down e) (down d) l _ _ (pow_pos (low f)) (down_pos e) (down_pos d)
    (distance-units (fin s m e) s s a b l (grid f a b) (refl, v)) (distance-units (fin t n d) t s a b l w (refl, y.2)) z in (
      r.0,
      λ q. elim (r.1 q) [
        | inl i ↦ inl (same-value f (fin s m e) (fin t n d) s (grid f a b) F h (refl, v) (sym i.0, y.2 ∙ ap (λ (x : ℕ). x * down d) i.1))
        | inr E ↦ inr (kept-even-bits f (fin s m e) s (kept p c b) (drop p c b) (kept-le p c b) E (refl, v))
      ],
    )

-- a double with the sign and the units that `round` gives a / b is the nearest one
nearest-of-value : (x : Float) (s : Bool) (a b : ℕ) → 0 < b → T (fits binary64 x) → HasValue x s (grid binary64 a b) (2 ^ low binary64) → NearestDouble x s a b
nearest-of-value nan s a b B F v = absurd v
nearest-of-value (inf t) s a b B F v = absurd v
nearest-of-value (fin t m e) s a b B F v = subst (λ (r : Bool). T (fits binary64 (fin r m e)) → NearestDouble (fin r m e) s a b) (sym v.0) here F
  where
    x : Float
    x = fin s m e

    here : T (fits binary64 x) → NearestDouble x s a b
    here G = record { finite = G; sign = refl; near = near; even = even }
      where
        near : (y : Float) → Finite y → distance x s a b * den y ≤ distance y s a b * den x
        near nan h = absurd h
        near (inf t) h = absurd h
        near (fin t n d) h = (rounded-ahead binary64 s m e a b B G v.1 t n d h).0

        even : (y : Float) → Finite y → distance y s a b * den x ≡ distance x s a b * den y → (x ≡ y → ⊥) → to_bits binary64 x % 2 ≡ 0
        even nan h q other = absurd h
        even (inf t) h q other = absurd h
        even (fin t n d) h q other = elim ((rounded-ahead binary64 s m e a b B G v.1 t n d h).1 (le_of_eq q)) [ inl c ↦ absurd (other c) | inr E ↦ E ]

-- ---- the laws

round-value : (f : Format) (s : Bool) (a b : ℕ) → grid f a b < overflow f → HasValue (round f s a b) s (grid f a b) (2 ^ low f)
round-value f s a b h =
    subst (λ (x : Float). HasValue x s (grid f a b) (2 ^ low f)) (sym (round_is f s a b)) (units_val f s (kept (prec f) (a * 2 ^ low f) b) (drop (prec f) (a * 2 ^ low f) b) h)

pub round-nearest : (s : Bool) (a b : ℕ) → 0 < b → grid binary64 a b < overflow binary64 → NearestDouble (round binary64 s a b) s a b
round-nearest s a b B h = nearest-of-value (round binary64 s a b) s a b B (round-fits binary64 s a b) (round-value binary64 s a b h)

-- up to 2 ^ prec nothing rounds to an infinity
no_overflow : (f : Format) (a b : ℕ) → 0 < b → a ≤ 2 ^ prec f * b → grid f a b < overflow f
no_overflow f a b B h =
    let p = prec f in
    let l = low f in
    let n = a * 2 ^ l in
    let up_to : n ≤ 2 ^ (p + l) * b = le_trans (mul-le-mul_right (2 ^ l) h) (le_of_eq (mul_right_comm (2 ^ p) b (2 ^ l) ∙ ap (λ (x : ℕ). x * b) (sym (pow-add 2 p l)))) in
    let under : n < 2 ^ suc (p + l) * b = lt_of_le_of_lt up_to (mul-lt-mul_of_pos_right (pow-lt (lt-suc_self (p + l))) B) in
    let few : drop p n b ≤ suc l = spare (size (n / b)) p l (size-le (n / b) (suc (p + l)) ((div-lt_iff_lt-mul B).1 under)) in
    lt_of_le_of_lt (mul-le-mul (kept-le p n b) (pow_mono few)) (lt_of_le_of_lt (le_of_eq (sym (pow-add 2 p (suc l)))) (pow-lt (room p l (emax f) (far f))))
  where
    spare : (z p l : ℕ) → z ≤ suc (p + l) → z - p ≤ suc l
    spare z p l h = omega arith

    room : (p l e : ℕ) → p < e → p + suc l < l + suc e
    room p l e h = omega arith

    far : (f : Format) → prec f < emax f
    far binary32 = lit< tt
    far binary64 = lit< tt

pub round-nearest-small : (s : Bool) (a b : ℕ) → 0 < b → a ≤ 2 ^ 53 * b → NearestDouble (round binary64 s a b) s a b
round-nearest-small s a b B h = round-nearest s a b B (no_overflow binary64 a b B h)
