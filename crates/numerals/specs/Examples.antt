-- Fields that the checker reads. Assumes nothing.
use Rattle.std.specs.Prelude.{ℕ, ◌≡◌, refl, Bool, true, false, Result, Ok, Err}
use Prim.Native.String.{String}
use Rattle.decimal.specs.Digits.{digits, padded}
use Rattle.phrases.specs.Ascii.{codes}
use Rattle.numerals.specs.Numerals.{is_digit, is_mark, digits_in, with_digits, is_number, unless_large, read_parts, read_number}
use Rattle.numerals.specs.Written.{pointed, printed}
use Rattle.numerals.specs.declared.NumberFault.{NumberFault}
use Rattle.numerals.specs.declared.NumberFault.TheVariants.{NoNumber, ManyDecimals, Large}

-- a text read with points alone as marks, and with commas too
unfoldable read : Bool → ℕ → String → Result ℕ NumberFault
unfolding is_digit is_mark digits_in with_digits is_number unless_large read_parts read_number
read commas decimals text = read_number commas decimals (codes text)

-- missing decimals are filled, and one too many is refused, whatever it is
filled : read false 2 "2" ≡ Ok 200
unfolding read
filled = refl

given : read false 2 "2.00" ≡ Ok 200
unfolding read
given = refl

one_too_many : read false 2 "2.000" ≡ Err ManyDecimals
unfolding read
one_too_many = refl

half : read false 1 "0.5" ≡ Ok 5
unfolding read
half = refl

zeros_in_front : read false 0 "0002" ≡ Ok 2
unfolding read
zeros_in_front = refl

-- a digit is missing on one side of the mark, or there are two marks
none_before : read false 1 ".5" ≡ Err NoNumber
unfolding read
none_before = refl

none_behind : read false 1 "5." ≡ Err NoNumber
unfolding read
none_behind = refl

two_marks : read false 4 "1.2.3" ≡ Err NoNumber
unfolding read
two_marks = refl

-- a sign, an exponent, a percent, a space, nothing
below-zero : read false 0 "-1" ≡ Err NoNumber
unfolding read
below-zero = refl

exponent : read false 0 "1e3" ≡ Err NoNumber
unfolding read
exponent = refl

percent : read false 0 "5%" ≡ Err NoNumber
unfolding read
percent = refl

space_behind : read false 0 "5 " ≡ Err NoNumber
unfolding read
space_behind = refl

nothing_there : read false 0 "" ≡ Err NoNumber
unfolding read
nothing_there = refl

-- a comma is a mark only where commas are marks, and never one of thousands
comma_no_mark : read false 1 "1,5" ≡ Err NoNumber
unfolding read
comma_no_mark = refl

comma_mark : read true 1 "1,5" ≡ Ok 15
unfolding read
comma_mark = refl

thousands : read true 2 "1,234.56" ≡ Err NoNumber
unfolding read
thousands = refl

-- the largest, and above it
largest : read false 0 "4294967295" ≡ Ok 4294967295
unfolding read
largest = refl

above : read false 0 "4294967296" ≡ Err Large
unfolding read
above = refl

above_by_decimals : read false 2 "42949672.96" ≡ Err Large
unfolding read
above_by_decimals = refl

-- the order: no number comes first, then too many decimals, then too large
many-before_large : read false 2 "9999999999.999" ≡ Err ManyDecimals
unfolding read
many-before_large = refl

none_before-many : read false 2 "1.2345x" ≡ Err NoNumber
unfolding read
none_before-many = refl

-- and as text: 205 units with two decimals, 5 with three, 7 with none
printed_two : printed 2 205 ≡ codes "2.05"
unfolding digits padded pointed
printed_two = refl

printed-small : printed 3 5 ≡ codes "0.005"
unfolding digits padded pointed
printed-small = refl

printed_none : printed 0 7 ≡ codes "7"
unfolding digits padded pointed
printed_none = refl
