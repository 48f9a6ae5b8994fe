-- One row of a text: what its fields say, from left to right, and the first that is at fault. Assumes nothing.
use Rattle.std.specs.Prelude.{ℕ, zero, suc, Bool, true, false, cond, not, List, [], ◌∷◌, ◌++◌, eqb, Result, Ok, Err, None, Option, Some}
use Rattle.form.specs.First.{first}
use Rattle.form.specs.Layout.{numbers_of}
use Rattle.phrases.specs.Ascii.{codes}
use Rattle.cells.specs.Cells.{cell_at, same_word}
use Rattle.numerals.specs.Numerals.{read_number}
use Rattle.numerals.specs.declared.NumberFault.{NumberFault}
use Rattle.columns.specs.Columns.{decimals_of, is_unit}
use Rattle.rowtext.specs.declared.FieldFault.{FieldFault}
use Rattle.rowtext.specs.declared.FieldFault.TheVariants as Field
use Rattle.rowtext.specs.declared.RowFault.{RowFault}

-- "A point is the decimal mark; where the separator is a semicolon or a tab, a comma is one too"
abbrev pub comma_marks : ℕ → Bool
comma_marks sep = not (eqb sep 44)

-- "8 `number`, 9 `decimals`, 10 `large`"
abbrev pub number_said : Result ℕ NumberFault → Result ℕ FieldFault
number_said (Ok n) = Ok n
number_said (Err f) = Err (Field.Number f)

-- "`land` is 0, `trees` is 1, letters capital or not, else fault 7 `unit`"
unfoldable pub unit_said : List ℕ → Result ℕ FieldFault
unit_said cell = cond (same_word (codes "land") cell) (Ok 0) (cond (same_word (codes "trees") cell) (Ok 1) (Err Field.Unit))

-- what field i of a row of a kind says, from its cell: a stock row's unit is a word, any other field a number
unfoldable pub cell_said : ℕ → ℕ → ℕ → ℕ → List ℕ → Result ℕ FieldFault
cell_said sep kind unit i cell = cond (is_unit kind i) (unit_said cell) (number_said (read_number (comma_marks sep) (decimals_of kind unit i) cell))

-- the number that is said, 0 where none is
abbrev pub number_in : Result ℕ FieldFault → ℕ
number_in (Ok n) = n
number_in (Err f) = 0

abbrev pub is_wrong : Result ℕ FieldFault → Bool
is_wrong (Ok n) = false
is_wrong (Err f) = true

-- the unit of a stock row, which its second field behind the kind's name says; the decimals of other kinds don't ask for it
abbrev pub unit_in : ℕ → List ℕ → ℕ
unit_in sep line = number_in (unit_said (cell_at sep 2 line))

-- what field i says; it stands behind the kind's name
abbrev pub said_at : ℕ → ℕ → List ℕ → ℕ → Result ℕ FieldFault
said_at sep kind line i = cell_said sep kind (unit_in sep line) i (cell_at sep (suc i) line)

-- the first n numbers of a row
unfoldable pub first_numbers : ℕ → ℕ → List ℕ → ℕ → List ℕ
first_numbers sep kind line zero = []
first_numbers sep kind line (suc n) = first_numbers sep kind line n ++ number_in (said_at sep kind line n) ∷ []

-- the row's numbers
abbrev pub numbers_said : ℕ → ℕ → List ℕ → List ℕ
numbers_said sep kind line = first_numbers sep kind line (numbers_of kind)

-- "then from left to right the first field at fault"
abbrev pub wrong_at : ℕ → ℕ → List ℕ → ℕ → Bool
wrong_at sep kind line i = is_wrong (said_at sep kind line i)

abbrev pub first_wrong : ℕ → ℕ → List ℕ → Option ℕ
first_wrong sep kind line = first (wrong_at sep kind line) (numbers_of kind)

-- a row whose fields are all numbers, or the first that is not, with its fault
abbrev pub at_fault : ℕ → Result ℕ FieldFault → Result (Unit {0}) RowFault
at_fault i (Ok n) = Ok tt
at_fault i (Err f) = Err (record { field = i; fault = f })

abbrev pub said_by : ℕ → ℕ → List ℕ → Option ℕ → Result (Unit {0}) RowFault
said_by sep kind line None = Ok tt
said_by sep kind line (Some i) = at_fault i (said_at sep kind line i)

unfoldable pub row_said : ℕ → ℕ → List ℕ → Result (Unit {0}) RowFault
row_said sep kind line = said_by sep kind line (first_wrong sep kind line)

-- ---- as the code leaves it: how many numbers stand in lent room then
abbrev pub stored_of : ℕ → Result (Unit {0}) RowFault → ℕ
stored_of kind (Ok done) = numbers_of kind
stored_of kind (Err f) = f.field
