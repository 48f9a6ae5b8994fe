-- Whole numbers rounded to 53 binary digits. Nothing here is about doubles. Assumes nothing.
--     rnd_off      rounding moves a number by at most 1 part in 2 ^ 53
--     rnd-small    below 2 ^ 53 it moves nothing
--     rnd-rnd      a rounded number rounds to itself, so adding it to zero is exact (rnd-first)
--     rnd_mono     a larger number never rounds to a smaller one
use mathlib.Core.Path.{◌≡◌, sym, ap, ◌∙◌, subst}
use mathlib.Core.Logic.{◌⊎◌, inl, inr}
use mathlib.Core.Bool.{not}
use Prim.Native.Nat.{ℕ, zero, suc, ◌+◌, ◌-◌, ◌*◌, ◌/◌, ◌%◌, ◌^◌, ◌≤◌, ◌<◌, compare, Ordering}
use native.Mathlib.Nat.{le_trans, le_of_eq, lt_of_le_of_lt, eq-zero-or-pos, eq-or-lt_of_le, zero-add, add-zero, mul-one, one-mul, mul_assoc, mul-le-mul_right, div-add-mod', mod-lt, suc-mul, le-div_iff_mul-le}
use native.Mathlib.Omega.{arith}
use lib.Dec.{T, is_le, compare_is_eq, leb→le, nleb→lt, eqb→eq, lit<}
use lib.Pow.{pow-add, pow_pos, pow_mono, shl_lt}
use lib.Ieee.{size, nearest}
use lib.Ieee.Digits.{size-lt, size-le, size_reaches}
use lib.Ieee.Fits.{kept-lt, nearest-le}
use lib.Ieee.Nearest.{closest, closest_mono, closest_same, nearest-ge}

-- how many digits of n are too many
abbrev pub extra : ℕ → ℕ
extra n = size n - 53

-- n to 53 binary digits: the nearest multiple of 2 ^ k, where k digits are too many, a tie to the even one
unfoldable pub rnd : ℕ → ℕ
rnd n = closest n (2 ^ extra n) * 2 ^ extra n

-- ---- the nearest multiple of u is at most half of u away
abbrev Cmp : Ordering → ℕ → ℕ → Type 0
Cmp Ordering.lt a b = a ≤ b
Cmp Ordering.eq a b = a ≡ b
Cmp Ordering.gt a b = b < a

cmp : (a b : ℕ) → Cmp (compare a b) a b
cmp a b = go (compare a b) (leb→le a b) (nleb→lt a b) (eqb→eq a b)
  where
    go : (o : Ordering) → (T (is_le o) → a ≤ b) → (T (not (is_le o)) → b < a) → (T (compare_is_eq o) → a ≡ b) → Cmp o a b
    go Ordering.lt h k e = h tt
    go Ordering.eq h k e = e tt
    go Ordering.gt h k e = k tt

record Half (c a u : ℕ) : Type 0 where
  over : c * u * 2 ≤ a * 2 + u
  under : a * 2 ≤ c * u * 2 + u

module _ (q r u a : ℕ) (e : q * u + r ≡ a) (l : r < u) where
  stays : r * 2 ≤ u → Half q a u
  stays h = record { over = omega arith; under = omega arith }

  moves : u ≤ r * 2 → Half (suc q) a u
  moves h = record { over = omega (arith, suc-mul q u); under = omega (arith, suc-mul q u) }

  tie : (t : ℕ) → t < 2 → r * 2 ≡ u → Half (q + t) a u
  tie zero b h = rw add-zero (stays (omega arith))
  tie (suc t) b h = let z : suc q ≡ q + suc t = omega arith in subst (λ (c : ℕ). Half c a u) z (moves (omega arith))

  half : (o : Ordering) → Cmp o (r * 2) u → Half (nearest q o) a u
  half Ordering.lt h = stays h
  half Ordering.eq h = tie (q % 2) (omega arith) h
  half Ordering.gt h = moves (omega arith)

closest-half : (a u : ℕ) → 0 < u → Half (closest a u) a u
closest-half a u p = half (a / u) (a % u) u a (div-add-mod' a u) (mod-lt a p) (compare (a % u * 2) u) (cmp (a % u * 2) u)

-- ---- rounding moves a number by at most 1 part in 2 ^ 53
pub record Moved (d n : ℕ) : Type 0 where
  pub over : d * 2 ^ 53 ≤ n * 2 ^ 53 + n
  pub under : n * 2 ^ 53 ≤ d * 2 ^ 53 + n

-- where digits are too many, n is at least 2 ^ 52 units
reaches : (n : ℕ) → 0 < extra n → 2 ^ 52 * 2 ^ extra n ≤ n
reaches n p = subst (λ (x : ℕ). x ≤ n) (pow-add 2 52 (extra n)) (size_reaches n (52 + extra n) (omega arith))

unit : (n : ℕ) → (2 ^ extra n ≡ 1) ⊎ (2 ^ 52 * 2 ^ extra n ≤ n)
unit n = elim (eq-zero-or-pos (extra n)) [ inl z ↦ inl (ap (λ (k : ℕ). 2 ^ k) z) | inr p ↦ inr (reaches n p) ]

moved : (c n u : ℕ) → Half c n u → (u ≡ 1) ⊎ (2 ^ 52 * u ≤ n) → Moved (c * u) n
moved c n u h (inl e) = record { over = omega arith; under = omega arith }
moved c n u h (inr g) = record { over = omega arith; under = omega arith }

pub rnd_off : (n : ℕ) → Moved (rnd n) n
unfolding rnd
rnd_off n = let u = 2 ^ extra n in moved (closest n u) n u (closest-half n u (pow_pos (extra n))) (unit n)

pub rnd_le : (n : ℕ) → rnd n ≤ n * 2
rnd_le n = let o = rnd_off n in omega arith

-- ---- what rounding keeps
closest-whole : (x : ℕ) → closest x 1 ≡ x
closest-whole x = let h = closest-half x 1 (pow_pos 0) in omega (arith, h.over, h.under)

closest_multiple : (x u : ℕ) → 0 < u → closest (x * u) u ≡ x
closest_multiple x u p = closest_same (x * u) u x 1 p (pow_pos 0) (mul-one (x * u)) ∙ closest-whole x

multiple : (n x u : ℕ) → 0 < u → n ≡ x * u → closest n u * u ≡ n
multiple n x u p e = ap (λ (z : ℕ). closest z u * u) e ∙ ap (λ (z : ℕ). z * u) (closest_multiple x u p) ∙ sym e

-- a multiple of 2 ^ k of at most 53 + k digits
kept : (x k : ℕ) → extra (x * 2 ^ k) ≤ k → rnd (x * 2 ^ k) ≡ x * 2 ^ k
unfolding rnd
kept x k h =
    let j = extra (x * 2 ^ k) in
    let e : k ≡ k - j + j = omega arith in
    multiple (x * 2 ^ k) (x * 2 ^ (k - j)) (2 ^ j) (pow_pos j)
    (ap (λ (i : ℕ). x * 2 ^ i) e ∙ ap (λ (y : ℕ). x * y) (pow-add 2 (k - j) j) ∙ sym (mul_assoc x (2 ^ (k - j)) (2 ^ j)))

kept-below : (x k : ℕ) → x < 2 ^ 53 → rnd (x * 2 ^ k) ≡ x * 2 ^ k
kept-below x k h = let s = size-le (x * 2 ^ k) (53 + k) (shl_lt 53 k h) in kept x k (omega arith)

pub rnd-small : (n : ℕ) → n < 2 ^ 53 → rnd n ≡ n
rnd-small n h = subst (λ (x : ℕ). rnd x ≡ x) (mul-one n) (kept-below n 0 h)

-- what is kept of a number has at most 53 digits, or is 2 ^ 53
kept_le : (n : ℕ) → closest n (2 ^ extra n) ≤ 2 ^ 53
kept_le n = let u = 2 ^ extra n in le_trans (nearest-le (n / u) (compare (n % u * 2) u)) (kept-lt 53 n)

again : (c k : ℕ) → (c ≡ 2 ^ 53) ⊎ (c < 2 ^ 53) → rnd (c * 2 ^ k) ≡ c * 2 ^ k
again c k (inr h) = kept-below c k h
again c k (inl e) =
    let z : 1 * 2 ^ (53 + k) ≡ c * 2 ^ k = one-mul (2 ^ (53 + k)) ∙ pow-add 2 53 k ∙ ap (λ (x : ℕ). x * 2 ^ k) (sym e) in
    subst (λ (x : ℕ). rnd x ≡ x) z (kept-below 1 (53 + k) (lit< tt))

pub rnd-rnd : (n : ℕ) → rnd (rnd n) ≡ rnd n
unfolding rnd
rnd-rnd n = again (closest n (2 ^ extra n)) (extra n) (eq-or-lt_of_le (kept_le n))

pub rnd-first : (n : ℕ) → rnd (0 + rnd n) ≡ rnd n
rnd-first n = ap rnd (zero-add (rnd n)) ∙ rnd-rnd n

-- ---- the order
size_mono : (a b : ℕ) → a ≤ b → size a ≤ size b
size_mono a b h = size-le a (size b) (lt_of_le_of_lt h (size-lt b))

-- with the same unit, the nearest multiples are in order; with a smaller one, 2 ^ 53 of it lies between
same_unit : (a b i k : ℕ) → a ≤ b → i ≡ k → closest a (2 ^ i) * 2 ^ i ≤ closest b (2 ^ k) * 2 ^ k
same_unit a b i k h e =
    subst (λ (j : ℕ). closest a (2 ^ i) * 2 ^ i ≤ closest b (2 ^ j) * 2 ^ j) e
    (mul-le-mul_right (2 ^ i) (closest_mono a (2 ^ i) b (2 ^ i) (pow_pos i) (pow_pos i) (mul-le-mul_right (2 ^ i) h)))

kept_ge : (b : ℕ) → 0 < extra b → 2 ^ 52 ≤ closest b (2 ^ extra b)
kept_ge b p =
    let u = 2 ^ extra b in
    le_trans ((le-div_iff_mul-le (pow_pos (extra b))).1 (reaches b p)) (nearest-ge (b / u) (compare (b % u * 2) u))

smaller_unit : (a b : ℕ) → extra a < extra b → closest a (2 ^ extra a) * 2 ^ extra a ≤ closest b (2 ^ extra b) * 2 ^ extra b
smaller_unit a b l =
    le_trans (mul-le-mul_right (2 ^ extra a) (kept_le a))
    (le_trans (le_of_eq (sym (pow-add 2 53 (extra a))))
    (le_trans (pow_mono (omega arith))
    (le_trans (le_of_eq (pow-add 2 52 (extra b))) (mul-le-mul_right (2 ^ extra b) (kept_ge b (omega arith))))))

pub rnd_mono : {a b : ℕ} → a ≤ b → rnd a ≤ rnd b
unfolding rnd
rnd_mono {a} {b} h =
    let s = size_mono a b h in
    let le : extra a ≤ extra b = omega arith in
    elim (eq-or-lt_of_le le) [ inl e ↦ same_unit a b (extra a) (extra b) h e | inr l ↦ smaller_unit a b l ]
