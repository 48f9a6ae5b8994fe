-- Laws of numbers with a sign. Assumes nothing.
use Rattle.std.proofs.Common.{◌≡◌, ℕ, zero, suc, ◌+◌, ◌-◌, ◌*◌, ◌<◌, ◌≤◌, Bool, true, false, not, ℤ, pos, negsuc, ◌-ℤ◌, ◌*ℤ◌, neg_ℤ, nat_abs, sym, refl, ap, ◌∙◌, zero-mul, arith, le-ltb, lt-ltb}
use native.Mathlib.Decide.{dec_lt}
use native.Mathlib.Nat.{zero-div, zero-mod}
use lib.IntN.{neg_ℤ-neg_ℤ}
use Rattle.wide.specs.Numbers.{value}
use Rattle.wide.specs.Rounding.{settled, nearest}
use Rattle.wide.specs.Signs.{sized, amount, sign, signed_of, Holds, nearest_z}
use Rattle.wide.specs.declared.signed.Signed.{Signed}
use Rattle.wide.proofs.Laws.{value_words, words}

-- what holds an integer holds its equal
pub holds_as : {s : Signed} {z w : ℤ} → Holds s z → z ≡ w → Holds s w
holds_as h e = record { number = h.number ∙ e; form = h.form; word = h.word }

-- zero has no sign
pub sized-zero : (t : Bool) (n : ℕ) → n ≡ 0 → pos n ≡ sized t n
sized-zero true n e = rw e
sized-zero false n e = refl

-- the sign through a negation, a product and a rounding
pub sized_not : (t : Bool) (n : ℕ) → sized (not t) n ≡ neg_ℤ (sized t n)
sized_not true n = sym (neg_ℤ-neg_ℤ (pos n))
sized_not false n = refl

pub sized-times : (t : Bool) (n k : ℕ) → sized t (n * k) ≡ sized t n *ℤ pos k
sized-times false n k = refl
sized-times true zero k = rw zero-mul
sized-times true (suc n) k = refl

nearest_zero : (d : ℕ) → 0 < d → nearest 0 d ≡ 0
unfolding settled
nearest_zero d h = simp (zero-div, zero-mod, lt-ltb 0 d h)

-- a sign turned, the rounded number has the other sign
pub nearest_turned : (z : ℤ) (d : ℕ) → 0 < d → nearest_z (neg_ℤ z) d ≡ neg_ℤ (nearest_z z d)
nearest_turned (pos zero) d h = rw (nearest_zero d h)
nearest_turned (pos (suc n)) d h = refl
nearest_turned (negsuc n) d h = sym (neg_ℤ-neg_ℤ (pos (nearest (suc n) d)))

pub sized-nearest : (t : Bool) (n d : ℕ) → 0 < d → sized t (nearest n d) ≡ nearest_z (sized t n) d
sized-nearest false n d h = refl
sized-nearest true zero d h = rw (nearest_zero d h)
sized-nearest true (suc n) d h = refl

-- a difference, by which is the larger
pub minus_below : (a b : ℕ) → a < b → sized true (b - a) ≡ pos a -ℤ pos b
minus_below a zero h = let z : ⊥ = omega arith in elim z [ ]
minus_below a (suc b) h =
    let e : suc b - a ≡ suc (suc b - suc a) = omega arith in
    simp (lt-ltb a (suc b) h, e)

pub minus_above : (a b : ℕ) → b ≤ a → sized false (a - b) ≡ pos a -ℤ pos b
minus_above a zero h = let e : a - 0 ≡ a + 0 = omega arith in ap pos e
minus_above a (suc b) h = simp (le-ltb a (suc b) h)

pub minus_sized : (a n : ℕ) → sized false (a + n) ≡ pos a -ℤ sized true n
minus_sized a zero = refl
minus_sized a (suc n) = refl

-- what holds an integer has its sign and its size
sign-sized : (t : Bool) (n : ℕ) → (t ≡ true → 0 < n) → t ≡ sign (sized t n)
sign-sized false n h = refl
sign-sized true zero h = let z : ⊥ = omega (arith, h refl) in elim z [ ]
sign-sized true (suc n) h = refl

pub size-sized : (t : Bool) (n : ℕ) → n ≡ nat_abs (sized t n)
size-sized false n = refl
size-sized true zero = refl
size-sized true (suc n) = refl

pub sign_is : (s : Signed) (z : ℤ) → Holds s z → s.below ≡ sign z
sign_is s z h = sign-sized s.below (value s.size) h.form ∙ ap sign h.number

pub size-amount : (s : Signed) → value s.size ≡ nat_abs (amount s)
size-amount s = size-sized s.below (value s.size)

pub size_is : (s : Signed) (z : ℤ) → Holds s z → value s.size ≡ nat_abs z
size_is s z h = size-amount s ∙ ap nat_abs h.number

-- the form of an integer holds it, and nothing else does
pub form-holds : (z : ℤ) → Holds (signed_of z) z
form-holds (pos n) = record { number = ap pos (value_words n).number; form = λ e. (let z : ◌≡◌ {A = ℕ} 0 1 = cc in absurd (omega arith)); word = (value_words n).word }
form-holds (negsuc n) =
    let w = value_words (suc n) in
    record { number = ap (sized true) w.number; form = λ e. omega arith; word = w.word }

pub signed : {s : Signed} {z : ℤ} → Holds s z → s ≡ signed_of z
signed {s} {z} h =
    let q = words (record { number = size_is s z h; word = h.word }) in
    λ i. record { below = sign_is s z h i; size = q i }

-- a sign turned leaves the size
pub size_turned : (z : ℤ) → nat_abs (neg_ℤ z) ≡ nat_abs z
size_turned (pos zero) = refl
size_turned (pos (suc n)) = refl
size_turned (negsuc n) = refl

-- sizes, for the room that a difference or a product asks
pub size_minus : (a : ℕ) (z : ℤ) → nat_abs (pos a -ℤ z) ≤ a + nat_abs z
size_minus a (pos zero) = omega arith
size_minus a (pos (suc n)) = by (dec_lt a (suc n))
  where
    by : Dec (a < suc n) → nat_abs (pos a -ℤ pos (suc n)) ≤ a + suc n
    by (yes h) = simp (lt-ltb a (suc n) h) (omega arith)
    by (no h) = simp (le-ltb a (suc n) (omega arith)) (omega arith)
size_minus a (negsuc n) = omega arith

pub size-times : (z : ℤ) (k : ℕ) → nat_abs (z *ℤ pos k) ≡ nat_abs z * k
size-times (pos n) k = refl
size-times (negsuc n) k = sym (size-sized true (suc n * k))
