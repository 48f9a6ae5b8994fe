-- Laws of little-endian numbers and of bytes that are zero. Assumes nothing.
--     number_1, number_2, number_4    a number in one, two or four bytes, as the code adds it up
--     stray_bits            some byte is not zero just where the bytes, or-ed together, are not zero
use Prim.Native.Nat.{ℕ, zero, suc, ◌+◌, ◌*◌, ◌<◌, ◌≤◌}
use mathlib.Core.Path.{◌≡◌, refl, ap, ◌∙◌}
use mathlib.Core.Bool.{Bool, not, ◌||◌}
use mathlib.Core.List.{List}
use native.Mathlib.Nat.{add_assoc, not-suc-le-zero}
use native.Mathlib.Numerals.{add-one}
use native.Mathlib.Omega.{arith}
use lib.Bits.{bit_and, bit_or, or_add_and, and_le_l, and_le_r}
use lib.Dec.{eqb, eqb-suc-zero}
use mir.Val.{Fits}
use mir.Syntax.{w8}
use Rattle.form.specs.First.{any}
use Rattle.form.specs.Bytes.{byte_at, number, stray_in}

pub number_1 : (s : List ℕ) (at : ℕ) → number 1 s at ≡ byte_at s at
unfolding number
number_1 s at = omega arith

pub number_2 : (s : List ℕ) (at : ℕ) → number 2 s at ≡ byte_at s at + 256 * byte_at s (at + 1)
unfolding number
number_2 s at = omega arith

pub number_4 : (s : List ℕ) (at : ℕ) → number 4 s at ≡ number 2 s at + 65536 * number 2 s (at + 2)
unfolding number
number_4 s at = simp add_assoc (omega arith)

-- each element is a byte
unfoldable pub Bytes : List ℕ → Type 0
Bytes s = (i : ℕ) → byte_at s i < 256

-- what is known of a slice of bytes
pub known : (s : List ℕ) → ((i : ℕ) → Fits w8 (byte_at s i)) → Bytes s
unfolding Bytes
known s h = λ i. (h i).fits

-- the bytes or-ed together
unfoldable pub bits_of : List ℕ → ℕ → ℕ → ℕ
bits_of s at zero = 0
bits_of s at (suc n) = bit_or (bits_of s at n) (byte_at s (at + n))

pub bits_none : (s : List ℕ) (at : ℕ) → bits_of s at 0 ≡ 0
unfolding bits_of
bits_none s at = refl

pub bits_more : (s : List ℕ) (at n : ℕ) → bits_of s at (n + 1) ≡ bit_or (bits_of s at n) (byte_at s (at + n))
unfolding bits_of
bits_more s at n = rw add-one

-- a number not below either of two and not above their sum is zero just where both are
both_zero : (a b n : ℕ) → a ≤ n → b ≤ n → n ≤ a + b → (not (eqb a 0) || not (eqb b 0)) ≡ not (eqb n 0)
both_zero zero b n h k l = let e : n ≡ b = omega arith in rw e
both_zero (suc a) b zero h k l = absurd (not-suc-le-zero h)
both_zero (suc a) b (suc n) h k l = simp eqb-suc-zero

or_zero : (a b : ℕ) → (not (eqb a 0) || not (eqb b 0)) ≡ not (eqb (bit_or a b) 0)
or_zero a b =
    let s : bit_or a b + bit_and a b ≡ a + b = or_add_and a b in
    both_zero a b (bit_or a b) (omega (arith, and_le_r a b)) (omega (arith, and_le_l a b)) (omega arith)

pub stray_bits : (s : List ℕ) (at n : ℕ) → stray_in s at n ≡ not (eqb (bits_of s at n) 0)
unfolding stray_in any bits_of
stray_bits s at zero = refl
stray_bits s at (suc n) = ap (λ (b : Bool). b || not (eqb (byte_at s (at + n)) 0)) (stray_bits s at n) ∙ or_zero (bits_of s at n) (byte_at s (at + n))
