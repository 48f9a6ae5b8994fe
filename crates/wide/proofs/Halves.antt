-- What the rule of rounding says of whole numbers: none is nearer, and at a half the even one. Assumes nothing.
--     far-above, far-below, far_turned    how far a whole number is from x over d, in parts of d, for either sign
--     close               rounded by the rule: at most half of d away, and at a half even
--     close_nearest, close_one    so no whole number is nearer, and no other one is as near and even at a half
use Rattle.std.proofs.Common.{◌≡◌, ℕ, zero, suc, ◌+◌, ◌-◌, ◌*◌, ◌/◌, ◌%◌, ◌<◌, ◌≤◌, Bool, true, false, cond, eqb, ltb, ℤ, pos, negsuc, ◌-ℤ◌, ◌*ℤ◌, neg_ℤ, nat_abs, sym, refl, ap, ◌∙◌, mod-lt, mul-le-mul_left, mul-add, arith, ltb-false, ltb-true, eqb-true}
use native.Mathlib.Decide.{dec_lt}
use native.Mathlib.Nat.{div-add-mod}
use borrow.Author.Tests.{eqb-false}
use lib.IntN.{neg_ℤ-neg_ℤ, neg_ℤ-+ℤ}
use Rattle.wide.specs.Rounding.{even_of, settled, nearest}
use Rattle.wide.proofs.SignLaws.{size-sized, size_turned, minus_below, minus_above, minus_sized}

-- how far apart two numbers are
abbrev pub gap : ℕ → ℕ → ℕ
gap a b = (a - b) + (b - a)

pub far-above : (n d m : ℕ) → nat_abs (pos n -ℤ pos d *ℤ pos m) ≡ gap n (d * m)
far-above n d m = by (dec_lt n (d * m))
  where
    by : Dec (n < d * m) → nat_abs (pos n -ℤ pos (d * m)) ≡ gap n (d * m)
    by (yes h) = ap nat_abs (sym (minus_below n (d * m) h)) ∙ sym (size-sized true (d * m - n)) ∙ omega arith
    by (no h) = ap nat_abs (sym (minus_above n (d * m) (omega arith))) ∙ omega arith

pub far-below : (n d m : ℕ) → nat_abs (pos n -ℤ pos d *ℤ negsuc m) ≡ n + d * suc m
far-below n d m = ap nat_abs (sym (minus_sized n (d * suc m)))

times_turned : (d : ℕ) (z : ℤ) → pos d *ℤ neg_ℤ z ≡ neg_ℤ (pos d *ℤ z)
times_turned d (pos zero) = let e : d * 0 ≡ 0 = omega arith in rw e
times_turned d (pos (suc n)) = refl
times_turned d (negsuc n) = sym (neg_ℤ-neg_ℤ (pos (d * suc n)))

-- both signs turned, the distance stays
pub far_turned : (x : ℤ) (d : ℕ) (z : ℤ) → nat_abs (neg_ℤ x -ℤ pos d *ℤ neg_ℤ z) ≡ nat_abs (x -ℤ pos d *ℤ z)
far_turned x d z =
    ap (λ (w : ℤ). nat_abs (neg_ℤ x -ℤ w)) (times_turned d z)
    ∙ ap nat_abs (sym (neg_ℤ-+ℤ x (neg_ℤ (pos d *ℤ z))))
    ∙ size_turned (x -ℤ pos d *ℤ z)

-- q is at most half of d away from x over d, and at a half it is even
pub record Close (x d q : ℕ) : Type 0 where
  pub half : 2 * gap x (d * q) ≤ d
  pub even : 2 * gap x (d * q) ≡ d → q % 2 ≡ 0

by_tests : (a b e : Bool) (x d q r : ℕ) → ltb (2 * r) d ≡ a → ltb d (2 * r) ≡ b → eqb (q % 2) 0 ≡ e → d * q + r ≡ x → r < d
    → Close x d (cond a q (cond b (q + 1) (cond e q (q + 1))))
by_tests true b e x d q r ea eb ee m l = let h = ltb-true (2 * r) d ea in record { half = omega arith; even = λ k. absurd (omega arith) }
by_tests false true e x d q r ea eb ee m l =
    let h = ltb-true d (2 * r) eb in
    let k : d * (q + 1) ≡ d * q + d * 1 = mul-add d q 1 in
    record { half = omega arith; even = λ j. absurd (omega arith) }
by_tests false false true x d q r ea eb ee m l =
    let h = ltb-false (2 * r) d ea in
    let g = ltb-false d (2 * r) eb in
    record { half = omega arith; even = λ j. eqb-true (q % 2) 0 ee }
by_tests false false false x d q r ea eb ee m l =
    let h = ltb-false (2 * r) d ea in
    let g = ltb-false d (2 * r) eb in
    let k : d * (q + 1) ≡ d * q + d * 1 = mul-add d q 1 in
    record { half = omega arith; even = λ j. omega (arith, eqb-false (q % 2) 0 ee) }

pub close : (x d : ℕ) → 0 < d → Close x d (nearest x d)
unfolding settled even_of
close x d h = by_tests (ltb (2 * (x % d)) d) (ltb d (2 * (x % d))) (eqb (x / d % 2) 0) x d (x / d) (x % d) refl refl refl (div-add-mod x d) (mod-lt x h)

-- a smaller number is a whole divisor further down
below : (d a b : ℕ) → a < b → d * a + d ≤ d * b
below d a b h = let h' : a + 1 ≤ b = omega arith in omega (arith, mul-add d a 1, mul-le-mul_left d h')

pub close_nearest : {x d q : ℕ} → Close x d q → (m : ℕ) → gap x (d * q) ≤ gap x (d * m)
close_nearest {x} {d} {q} c m = by (dec_lt m q) (dec_lt q m)
  where
    by : Dec (m < q) → Dec (q < m) → gap x (d * q) ≤ gap x (d * m)
    by (yes h) _ = omega (arith, c.half, below d m q h)
    by (no h) (yes l) = omega (arith, c.half, below d q m l)
    by (no h) (no l) = let e : m ≡ q = omega arith in rw e (omega arith)

-- two numbers, each close
two : {x d a b : ℕ} → 0 < d → Close x d a → Close x d b → a < b → ⊥
two {x} {d} {a} {b} h ca cb l = by (dec_lt (a + 1) b)
  where
    by : Dec (a + 1 < b) → ⊥
    by (yes k) = omega (arith, ca.half, cb.half, below d (a + 1) b k, mul-add d a 1)
    by (no k) =
        let e : b ≡ a + 1 = omega arith in
        let s : d * b ≡ d * a + d * 1 = ap (λ (n : ℕ). d * n) e ∙ mul-add d a 1 in
        omega (arith, ca.half, cb.half, ca.even (omega (arith, ca.half, cb.half)), cb.even (omega (arith, ca.half, cb.half)))

pub close_one : {x d a b : ℕ} → 0 < d → Close x d a → Close x d b → a ≡ b
close_one {x} {d} {a} {b} h ca cb = by (dec_lt a b) (dec_lt b a)
  where
    by : Dec (a < b) → Dec (b < a) → a ≡ b
    by (yes l) _ = absurd (two h ca cb l)
    by (no l) (yes k) = absurd (two h cb ca k)
    by (no l) (no k) = omega arith
