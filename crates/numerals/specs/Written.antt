-- Numbers as they are written: what a field has to be, and the text that a number of units is printed as. Assumes nothing.
use Rattle.std.specs.Prelude.{ℕ, zero, suc, ◌/◌, ◌^◌, ◌<◌, ◌≡◌, Bool, true, List, [], ◌∷◌, ◌++◌, length}
use Rattle.decimal.specs.Digits.{decimal, padded}
use Rattle.numerals.specs.Numerals.{is_mark, AllDigits}

-- "Digits, and, if there is a mark, at least one digit on each side of it"
pub data Number (commas : Bool) : List ℕ → Type 0 where
  plain : (a : List ℕ) → AllDigits a → 0 < length a → Number commas a
  parted : (a : List ℕ) (m : ℕ) (b : List ℕ) → AllDigits a → 0 < length a → is_mark commas m ≡ true → AllDigits b → 0 < length b
      → Number commas (a ++ m ∷ b)

-- a point and the last d digits of n; nothing, where there are no decimals
unfoldable pub pointed : ℕ → ℕ → List ℕ
pointed zero n = []
pointed (suc d) n = 46 ∷ padded (suc d) n

-- n units with d decimals: the whole part with no zeros in front, at least one digit, and behind a point exactly d digits
abbrev pub printed : ℕ → ℕ → List ℕ
printed d n = decimal (n / 10 ^ d) ++ pointed d n
