-- Numbers with a sign, as integers. Assumes nothing.
use Rattle.std.specs.Prelude.{◌≡◌, ℕ, suc, ◌^◌, ◌<◌, Bool, true, false, ℤ, pos, negsuc, neg_ℤ, unsigned_abs}
use Rattle.wide.specs.Numbers.{value, words_of}
use Rattle.wide.specs.Rounding.{nearest}
use Rattle.wide.specs.declared.signed.Signed.{Signed}

-- n below zero, or n
abbrev pub sized : Bool → ℕ → ℤ
sized true n = neg_ℤ (pos n)
sized false n = pos n

-- the integer that s stands for
abbrev pub amount : Signed → ℤ
amount s = sized s.below (value s.size)

-- zero is never below zero, so an integer has one form
abbrev pub Canonical : Signed → Type 0
Canonical s = s.below ≡ true → 0 < value s.size

-- the sign, and the form, of an integer
abbrev pub sign : ℤ → Bool
sign (pos n) = false
sign (negsuc n) = true

abbrev pub signed_of : ℤ → Signed
signed_of z = record { below = sign z; size = words_of (unsigned_abs z) }

-- s is the integer z, in its one form (`signed`)
pub record Holds (s : Signed) (z : ℤ) : Type 0 where
  pub number : amount s ≡ z
  pub form : Canonical s
  pub word : s.size.lo < 2 ^ 64

-- z over d, rounded: the rule acts on the size, so it is one for both signs
abbrev pub nearest_z : ℤ → ℕ → ℤ
nearest_z (pos n) d = pos (nearest n d)
nearest_z (negsuc n) d = neg_ℤ (pos (nearest (suc n) d))
