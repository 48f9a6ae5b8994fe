-- Rows that the checker reads. Assumes nothing.
use Rattle.std.specs.Prelude.{ℕ, ◌≡◌, refl, List, [], ◌∷◌, Result, Ok, Err}
use Prim.Native.String.{String}
use Rattle.form.specs.First.{first}
use Rattle.phrases.specs.Ascii.{codes}
use Rattle.cells.specs.Lines.{last_of}
use Rattle.cells.specs.Cells.{fields_of, blank_in, front_off, end_off, quotes_off, small, same_word}
use Rattle.numerals.specs.Numerals.{is_digit, is_mark, digits_in, with_digits, is_number, unless_large, read_parts, read_number}
use Rattle.columns.specs.Columns.{is_unit}
use Rattle.rowtext.specs.Said.{unit_said, cell_said, first_numbers, numbers_said, row_said}
use Rattle.numerals.specs.declared.NumberFault.TheVariants.{NoNumber, ManyDecimals, Large}
use Rattle.rowtext.specs.declared.FieldFault.{FieldFault}
use Rattle.rowtext.specs.declared.FieldFault.TheVariants as Field
use Rattle.rowtext.specs.declared.RowFault.{RowFault}

-- field i at fault
abbrev wrong : ℕ → FieldFault → Result (Unit {0}) RowFault
wrong i f = Err (record { field = i; fault = f })

-- a row of a kind, separated by commas (44) or semicolons (59): what it says, and its numbers
unfoldable read : ℕ → ℕ → String → Result (Unit {0}) RowFault
unfolding first fields_of blank_in front_off end_off quotes_off last_of small same_word is_digit is_mark digits_in with_digits is_number unless_large read_parts read_number is_unit unit_said cell_said row_said
read sep kind text = row_said sep kind (codes text)

unfoldable numbers : ℕ → ℕ → String → List ℕ
unfolding fields_of blank_in front_off end_off quotes_off last_of small same_word is_digit is_mark digits_in with_digits is_number unless_large read_parts read_number is_unit unit_said cell_said first_numbers
numbers sep kind text = numbers_said sep kind (codes text)

-- one cell of a soil row, its native carbon
unfoldable carbon : ℕ → String → Result ℕ FieldFault
unfolding is_digit is_mark digits_in with_digits is_number unless_large read_parts read_number is_unit cell_said
carbon sep text = cell_said sep 7 0 5 (codes text)

-- land: rate and amount have two decimals; missing ones are filled
land : (read 44 2 "stock,7,land,1.25,300.5,0.475" ≡ Ok tt) × (numbers 44 2 "stock,7,land,1.25,300.5,0.475" ≡ 7 ∷ 0 ∷ 125 ∷ 30050 ∷ 475 ∷ [])
unfolding read numbers
land = (refl, refl)

-- trees: the rate has four, the amount none; letters capital or not, blanks and quotes around a field
trees : (read 44 2 "stock,7, Trees,0.0125,\"300\",0.5" ≡ Ok tt) × (numbers 44 2 "stock,7, Trees,0.0125,\"300\",0.5" ≡ 7 ∷ 1 ∷ 125 ∷ 300 ∷ 500 ∷ [])
unfolding read numbers
trees = (refl, refl)

-- so a rate of trees is too exact for land, and an amount of land for trees
by_the_unit : (read 44 2 "stock,7,land,0.0125,300,0.5" ≡ wrong 2 (Field.Number ManyDecimals)) × (read 44 2 "stock,7,trees,0.0125,300.5,0.5" ≡ wrong 3 (Field.Number ManyDecimals))
unfolding read
by_the_unit = (refl, refl)

-- a comma is a mark where it does not separate
comma_row : numbers 59 2 "stock;7;land;1,25;300,5;0,475" ≡ 7 ∷ 0 ∷ 125 ∷ 30050 ∷ 475 ∷ []
unfolding numbers
comma_row = refl

comma : (carbon 59 "1,5" ≡ Ok 15) × (carbon 44 "1,5" ≡ Err (Field.Number NoNumber)) × (carbon 44 "1.5" ≡ Ok 15)
unfolding carbon
comma = (refl, refl, refl)

-- an empty field is no number, and neither is one that is not there
empty : (read 44 2 "stock,7,land,,300,0.5" ≡ wrong 2 (Field.Number NoNumber)) × (read 44 2 "stock,7,land,1,300" ≡ wrong 4 (Field.Number NoNumber))
unfolding read
empty = (refl, refl)

-- neither land nor trees
no_unit : read 44 2 "stock,7,lands,1,300,0.5" ≡ wrong 1 Field.Unit
unfolding read
no_unit = refl

-- the first from the left, though later ones are at fault too
from_the_left : (read 44 2 "stock,7,acres,,1.23456,x" ≡ wrong 1 Field.Unit) × (read 44 2 "stock,x,acres,,1.23456,9" ≡ wrong 0 (Field.Number NoNumber))
unfolding read
from_the_left = (refl, refl)

-- a decimal too many, whatever it is: `2.000` kha; and more than 4,294,967,295 units
too_many : read 44 1 "conversion,1,2.000,5,5,0,0,0,0,0,0,2,5,5,0,0" ≡ wrong 1 (Field.Number ManyDecimals)
unfolding read
too_many = refl

too_large : (read 44 4 "parameters,4294967.296,0,0,0,0,0" ≡ wrong 0 (Field.Number Large)) × (read 44 4 "parameters,4294967.295,0,0,0,0,0" ≡ Ok tt)
unfolding read
too_large = (refl, refl)

-- another number is no kind and has no fields
no_kind : read 44 9 "forest,1,2" ≡ Ok tt
unfolding read
no_kind = refl
