-- A decimal number in the bytes of a text field: "Digits, and, if there is a mark, at least one digit on each side of it; leading zeros pass.
-- No sign, no exponent, no thousands mark, no percent, no empty field." Assumes nothing.
use Rattle.std.specs.Prelude.{ℕ, ◌+◌, ◌-◌, ◌*◌, ◌^◌, min, ◌≡◌, Bool, true, cond, ◌&&◌, ◌||◌, List, [], ◌∷◌, ◌++◌, length, drop, ltb, leb, eqb, Result, Ok, Err}
use Rattle.numerals.specs.declared.NumberFault.{NumberFault}
use Rattle.numerals.specs.declared.NumberFault.TheVariants.{NoNumber, ManyDecimals, Large}

-- the digits 0 to 9 are the bytes 48 to 57
unfoldable pub is_digit : ℕ → Bool
is_digit b = leb 48 b && leb b 57

-- a mark is a point (46), or, where commas are marks too, a comma (44)
unfoldable pub is_mark : Bool → ℕ → Bool
is_mark commas b = eqb b 46 || (commas && eqb b 44)

-- the digits at the front, up to the first byte that is none
unfoldable pub digits_in : List ℕ → List ℕ
digits_in [] = []
digits_in (b ∷ l) = cond (is_digit b) (b ∷ digits_in l) []

-- what stands behind them
abbrev pub behind_digits : List ℕ → List ℕ
behind_digits l = drop (length (digits_in l)) l

-- digits and nothing else
abbrev pub AllDigits : List ℕ → Type 0
AllDigits l = digits_in l ≡ l

-- the number n with some digits more behind its own: each makes it ten times as large and is added
unfoldable pub with_digits : ℕ → List ℕ → ℕ
with_digits n [] = n
with_digits n (b ∷ l) = with_digits (10 * n + (b - 48)) l

-- the number that some digits say, the first one highest
abbrev pub value_of : List ℕ → ℕ
value_of l = with_digits 0 l

-- "at least one digit", and nothing behind the digits
abbrev pub only_digits : List ℕ → Bool
only_digits l = ltb 0 (length (digits_in l)) && eqb (length (digits_in l)) (length l)

-- what may stand behind the first digits: nothing, or a mark with digits behind it and nothing else
abbrev pub well_ended : Bool → List ℕ → Bool
well_ended commas [] = true
well_ended commas (b ∷ l) = is_mark commas b && only_digits l

-- a number: "digits, and, if there is a mark, at least one digit on each side of it"
unfoldable pub is_number : Bool → List ℕ → Bool
is_number commas l = ltb 0 (length (digits_in l)) && well_ended commas (behind_digits l)

-- what stands behind a number's mark, its decimals; nothing, where it has no mark
abbrev pub behind_mark : List ℕ → List ℕ
behind_mark l = drop (length (digits_in l) + 1) l

-- above 4,294,967,295 a number is too large
unfoldable pub unless_large : ℕ → Result ℕ NumberFault
unless_large n = cond (ltb 4294967295 n) (Err Large) (Ok n)

-- the units of a number, by its digits before the mark and behind it: the number without the mark, times ten for each decimal that is missing
abbrev pub units_of : ℕ → List ℕ → List ℕ → ℕ
units_of decimals whole behind = value_of (whole ++ behind) * 10 ^ (decimals - length behind)

-- "more digits behind the mark" than the decimals are too many, whatever they are; else its units
unfoldable pub read_parts : ℕ → List ℕ → List ℕ → Result ℕ NumberFault
read_parts decimals whole behind = cond (ltb decimals (length behind)) (Err ManyDecimals) (unless_large (units_of decimals whole behind))

-- a field: no number, or a number with its digits before the mark and behind it
unfoldable pub read_number : Bool → ℕ → List ℕ → Result ℕ NumberFault
read_number commas decimals l = cond (is_number commas l) (read_parts decimals (digits_in l) (digits_in (behind_mark l))) (Err NoNumber)

-- a sum that goes on beyond what fits: 4,294,967,296 stands for every number that is too large
abbrev pub capped : ℕ → ℕ
capped n = min n 4294967296
