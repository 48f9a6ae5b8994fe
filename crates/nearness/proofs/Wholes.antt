-- Doubles that are whole numbers. Assumes nothing.
--     one_value             a double is one number only
--     no_nan                a whole number is no NaN
--     in_order              whole doubles are in the order of their numbers
--     round_whole           a whole number, rounded to a double, is that number to 53 digits
--     mul-whole, add-whole  a product and a sum are those of the numbers, rounded once
--     double-holds, mul_holds, add_holds    the same with a bound on the number, so that nothing overflows
use mathlib.Core.Path.{◌≡◌, refl, sym, ap, ◌∙◌, subst}
use mathlib.Core.Logic.{inl, inr}
use mathlib.Core.Bool.{true, false, not, true≢false}
use Prim.Native.Nat.{ℕ, suc, ◌+◌, ◌-◌, ◌*◌, ◌^◌, ◌≤◌, ◌<◌}
use native.Mathlib.Nat.{le_trans, le_of_eq, le_of_lt, lt_of_le_of_lt, eq-zero-or-pos, mul-one, mul_comm, mul_assoc, mul_right_comm, mul-mul-mul_comm, add-mul, mul-pos, mul-div_cancel, mul-le-mul, mul-le-mul_right, mul-lt-mul_of_pos_right, eq_of_mul-eq-mul_right, pow-suc}
use native.Mathlib.Omega.{arith}
use lib.IntN.{ℤ}
use lib.Dec.{T, lit≤}
use lib.Pow.{pow-add, pow_pos, pow_mono, pow-lt, shl_lt}
use lib.Ieee.{Float, nan, inf, fin, binary64, low, up, down, size, round, mul, add, sum, le, of_int, is_nan}
use lib.Ieee.Digits.{size-lt}
use lib.Ieee.Fits.{down_pos}
use lib.Ieee.Exact.{HasValue}
use lib.Ieee.Nearest.{closest, closest_same}
use lib.Ieee.Order.{kept, drop, le_of_values}
use lib.Ieee.Back as Back
use lib.Ieee.Scale.{round_same, grid, overflow, round_val, grid_scale}
use Rattle.doubles.specs.Double.{double}
use Rattle.nearness.specs.Near.{Whole}
use Rattle.nearness.proofs.Rounding.{rnd, extra, rnd-small, rnd_le}

pub one_value : (x : Float) (a b : ℕ) → Whole x a → Whole x b → a ≡ b
one_value nan a b v w = absurd v
one_value (inf s) a b v w = absurd v
one_value (fin s m e) a b v w = eq_of_mul-eq-mul_right (down e) (down_pos e) a b (sym v.1 ∙ w.1)

pub no_nan : (x : Float) (n : ℕ) → Whole x n → T (not (is_nan x))
unfolding is_nan
no_nan nan n v = absurd v
no_nan (inf s) n v = absurd v
no_nan (fin s m e) n v = tt

pub in_order : (x y : Float) (a b : ℕ) → Whole x a → Whole y b → a ≤ b → T (le x y)
in_order x y a b v w h = le_of_values x y a 1 b 1 (pow_pos 0) (pow_pos 0) v w (mul-le-mul_right 1 h)

-- ---- a whole number, rounded to a double
-- from one fraction to another of the same size
rescale : (x : Float) (w l n : ℕ) → 0 < l → w ≡ n * l → HasValue x false w l → Whole x n
rescale nan w l n p h v = v
rescale (inf t) w l n p h v = v
rescale (fin t m e) w l n p h v = (
  v.0,
  eq_of_mul-eq-mul_right l p (m * up e * 1) (n * down e) (ap (λ (x : ℕ). x * l) (mul-one (m * up e)) ∙ v.1 ∙ ap (λ (x : ℕ). x * down e) h ∙ mul_right_comm n l (down e)),
)

-- n * L / L is n, so of it `round` keeps what `rnd` keeps
kept-rnd : (n L : ℕ) → 0 < L → kept 53 (n * L) L * 2 ^ drop 53 (n * L) L ≡ rnd n
unfolding rnd
kept-rnd n L p =
    let k = extra n in
    ap (λ (x : ℕ). closest (n * L) (L * 2 ^ extra x) * 2 ^ extra x) (mul-div_cancel n p)
    ∙ ap (λ (x : ℕ). x * 2 ^ k) (closest_same (n * L) (L * 2 ^ k) n (2 ^ k) (mul-pos p (pow_pos k)) (pow_pos k) (mul_assoc n L (2 ^ k)))

-- from 53 digits on: n / 1 is n * 2 ^ low / 2 ^ low, which is in the normal range
large : (n : ℕ) → 53 ≤ size n → rnd n < 2 ^ 1024 → Whole (round binary64 false n 1) (rnd n)
large n h l =
    let L = 2 ^ low binary64 in
    let P : 0 < L = pow_pos (low binary64) in
    let g : grid binary64 (n * L) L ≡ rnd n * L =
    grid_scale binary64 n L (low binary64) P (subst (λ (x : ℕ). 53 ≤ size x) (sym (mul-div_cancel n P)) h) ∙ ap (λ (x : ℕ). x * L) (kept-rnd n L P) in
    let under : grid binary64 (n * L) L < overflow binary64 = subst (λ (x : ℕ). x < overflow binary64) (sym g) (shl_lt 1024 (low binary64) l) in
    subst (λ (x : Float). Whole x (rnd n)) (round_same binary64 false (n * L) L n 1 P (pow_pos 0) (mul-one (n * L)))
    (rescale (round binary64 false (n * L) L) (grid binary64 (n * L) L) L (rnd n) P g (round_val binary64 (n * L) L under))

small : (n : ℕ) → size n < 53 → Whole (round binary64 false n 1) (rnd n)
small n h =
    let l = lt_of_le_of_lt (le_of_lt (size-lt n)) (pow-lt h) in
    subst (Whole (round binary64 false n 1)) (sym (rnd-small n l)) (Back.round_whole binary64 false n (le_of_lt l))

pub round_whole : (n : ℕ) → n < 2 ^ 1023 → Whole (round binary64 false n 1) (rnd n)
round_whole n h = elim (eq-zero-or-pos (53 - size n)) [
  | inl z ↦ large n (omega arith) (lt_of_le_of_lt (rnd_le n) (mul-lt-mul_of_pos_right h (pow_pos 1)))
  | inr p ↦ small n (omega arith)
]

-- ---- a product and a sum
mul-round : (x y : Float) (a b : ℕ) → Whole x a → Whole y b → mul binary64 x y ≡ round binary64 false (a * b) 1
unfolding mul
mul-round nan y a b v w = absurd v
mul-round (inf s) y a b v w = absurd v
mul-round (fin s m e) nan a b v w = absurd w
mul-round (fin s m e) (inf t) a b v w = absurd w
mul-round (fin true m e) (fin t n d) a b v w = absurd (true≢false v.0)
mul-round (fin false m e) (fin true n d) a b v w = absurd (true≢false w.0)
mul-round (fin false m e) (fin false n d) a b v w =
    round_same binary64 false (m * up e * (n * up d)) (down e * down d) (a * b) 1 (mul-pos (down_pos e) (down_pos d)) (pow_pos 0)
    (mul-mul-mul_comm (m * up e) (n * up d) 1 1 ∙ ap (λ (z : ℕ). z * (n * up d * 1)) v.1 ∙ ap (λ (z : ℕ). a * down e * z) w.1 ∙ mul-mul-mul_comm a (down e) b (down d))

opened : (m : ℕ) (e : ℤ) (n : ℕ) (d : ℤ) → sum binary64 false (m * up e * down d) false (n * up d * down e) (down e * down d) ≡ round binary64 false (m * up e * down d + n * up d * down e) (down e * down d)
unfolding sum
opened m e n d = refl

add-round : (x y : Float) (a b : ℕ) → Whole x a → Whole y b → add binary64 x y ≡ round binary64 false (a + b) 1
unfolding add
add-round nan y a b v w = absurd v
add-round (inf s) y a b v w = absurd v
add-round (fin s m e) nan a b v w = absurd w
add-round (fin s m e) (inf t) a b v w = absurd w
add-round (fin true m e) (fin t n d) a b v w = absurd (true≢false v.0)
add-round (fin false m e) (fin true n d) a b v w = absurd (true≢false w.0)
add-round (fin false m e) (fin false n d) a b v w =
    let u = down e * down d in
    let p : m * up e * down d ≡ a * u = ap (λ (z : ℕ). z * down d) (sym (mul-one (m * up e)) ∙ v.1) ∙ mul_assoc a (down e) (down d) in
    let q : n * up d * down e ≡ b * u = ap (λ (z : ℕ). z * down e) (sym (mul-one (n * up d)) ∙ w.1) ∙ mul_assoc b (down d) (down e) ∙ ap (λ (z : ℕ). b * z) (mul_comm (down d) (down e)) in
    let s : (m * up e * down d + n * up d * down e) * 1 ≡ (a + b) * u = mul-one (m * up e * down d + n * up d * down e) ∙ rw (p, q) (sym (add-mul a b u)) in
    opened m e n d ∙ round_same binary64 false (m * up e * down d + n * up d * down e) u (a + b) 1 (mul-pos (down_pos e) (down_pos d)) (pow_pos 0) s

pub mul-whole : (x y : Float) (a b : ℕ) → Whole x a → Whole y b → a * b < 2 ^ 1023 → Whole (mul binary64 x y) (rnd (a * b))
mul-whole x y a b v w h = subst (λ (z : Float). Whole z (rnd (a * b))) (sym (mul-round x y a b v w)) (round_whole (a * b) h)

pub add-whole : (x y : Float) (a b : ℕ) → Whole x a → Whole y b → a + b < 2 ^ 1023 → Whole (add binary64 x y) (rnd (a + b))
add-whole x y a b v w h = subst (λ (z : Float). Whole z (rnd (a + b))) (sym (add-round x y a b v w)) (round_whole (a + b) h)

-- ---- the double x is the whole number n, which is at most 2 ^ m
pub record Holds (m : ℕ) (x : Float) (n : ℕ) : Type 0 where
  pub whole : Whole x n
  pub most : n ≤ 2 ^ m

pub holds_more : {i j : ℕ} {x : Float} {n : ℕ} → i ≤ j → Holds i x n → Holds j x n
holds_more h s = record { whole = s.whole; most = le_trans s.most (pow_mono h) }

pub double-holds : (n : ℕ) → n ≤ 2 ^ 32 → Holds 32 (double n) n
unfolding of_int
double-holds n h = record { whole = Back.round_whole binary64 false n (le_trans h (lit≤ tt)); most = h }

-- rounding at most doubles a number
rounded : (k n : ℕ) → n ≤ 2 ^ k → rnd n ≤ 2 ^ suc k
rounded k n h = le_trans (rnd_le n) (le_trans (mul-le-mul_right 2 h) (le_of_eq (sym (pow-suc 2 k))))

pub mul_holds : {i j : ℕ} {x y : Float} {a b : ℕ} → i + j < 1023 → Holds i x a → Holds j y b → Holds (suc (i + j)) (mul binary64 x y) (rnd (a * b))
mul_holds {i} {j} {x} {y} {a} {b} l s t =
    let p : a * b ≤ 2 ^ (i + j) = le_trans (mul-le-mul s.most t.most) (le_of_eq (sym (pow-add 2 i j))) in
    record { whole = mul-whole x y a b s.whole t.whole (lt_of_le_of_lt p (pow-lt l)); most = rounded (i + j) (a * b) p }

pub add_holds : {i : ℕ} {x y : Float} {a b : ℕ} → suc i < 1023 → Holds i x a → Holds i y b → Holds (suc (suc i)) (add binary64 x y) (rnd (a + b))
add_holds {i} {x} {y} {a} {b} l s t =
    let p : a + b ≤ 2 ^ suc i = omega (arith, pow-suc 2 i, s.most, t.most) in
    record { whole = add-whole x y a b s.whole t.whole (lt_of_le_of_lt p (pow-lt l)); most = rounded (suc i) (a + b) p }
