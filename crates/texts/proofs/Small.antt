-- The numbers of a row fit 32 bits. Assumes nothing.
--     AllSmall, append_small     every number of a list does
--     zeros-small, row_small     of zeros, and of a row
use Prim.Native.Nat.{ℕ, zero, suc, ◌<◌}
use mathlib.Core.Path.{◌≡◌, refl}
use mathlib.Core.Bool.{Bool, true, false, cond}
use mathlib.Core.List.{List, [], ◌∷◌, ◌++◌}
use native.Mathlib.Omega.{arith}
use lib.Dec.{ltb}
use lib.ListN.{length, get_or, replicate}
use borrow.Author.Tests.{ltb-false}
use Rattle.form.specs.Layout.{numbers_of}
use Rattle.form.proofs.Tests.{either}
use Rattle.cells.specs.Cells.{cell_at, same_word}
use Rattle.phrases.specs.Ascii.{codes}
use Rattle.numerals.specs.Numerals.{digits_in, is_number, behind_mark, units_of, unless_large, read_parts, read_number}
use Rattle.std.specs.Prelude.{Result, Ok, Err}
use Rattle.numerals.specs.declared.NumberFault.TheVariants.{NoNumber, ManyDecimals, Large}
use Rattle.columns.specs.Columns.{decimals_of, is_unit}
use Rattle.rowtext.specs.Said.{comma_marks, number_said, unit_said, cell_said, number_in, unit_in, said_at, first_numbers, numbers_said}
use Rattle.rowtext.specs.declared.FieldFault.{FieldFault}
use Rattle.rowtext.specs.declared.FieldFault.TheVariants as Field

abbrev pub AllSmall : List ℕ → Type 0
AllSmall xs = (i : ℕ) → get_or xs i 0 < 4294967296

pub append_small : (xs ys : List ℕ) → AllSmall xs → AllSmall ys → AllSmall (xs ++ ys)
append_small [] ys a b i = b i
append_small (x ∷ xs) ys a b zero = a zero
append_small (x ∷ xs) ys a b (suc i) = append_small xs ys (λ k. a (suc k)) b i

pub zeros-small : (n : ℕ) → AllSmall (replicate n 0)
zeros-small zero i = omega arith
zeros-small (suc n) zero = omega arith
zeros-small (suc n) (suc i) = zeros-small n i

one_small : (n : ℕ) → n < 4294967296 → AllSmall (n ∷ [])
one_small n h zero = h
one_small n h (suc i) = omega arith

-- what a cell says
unit-small : (cell : List ℕ) → number_in (unit_said cell) < 4294967296
unfolding unit_said
unit-small cell = by (same_word (codes "land") cell) (same_word (codes "trees") cell)
  where
    by : (p q : Bool) → number_in (cond p (Ok 0) (cond q (Ok 1) (Err Field.Unit))) < 4294967296
    by true q = omega arith
    by false true = omega arith
    by false false = omega arith

number_small : (commas : Bool) (d : ℕ) (cell : List ℕ) → number_in (number_said (read_number commas d cell)) < 4294967296
unfolding read_number read_parts unless_large
number_small commas d cell = by (is_number commas cell) (ltb d (length behind)) (ltb 4294967295 units) units refl
  where
    behind : List ℕ
    behind = digits_in (behind_mark cell)

    units : ℕ
    units = units_of d (digits_in cell) behind

    by : (p q r : Bool) (n : ℕ) → ltb 4294967295 n ≡ r → number_in (number_said (cond p (cond q (Err ManyDecimals) (cond r (Err Large) (Ok n))) (Err NoNumber))) < 4294967296
    by false q r n e = omega arith
    by true true r n e = omega arith
    by true false true n e = omega arith
    by true false false n e = omega (arith, ltb-false 4294967295 n e)

said-small : (sep kind : ℕ) (line : List ℕ) (i : ℕ) → number_in (said_at sep kind line i) < 4294967296
unfolding cell_said
said-small sep kind line i =
    let cell = cell_at sep (suc i) line in
    either (λ (x : Result ℕ FieldFault). number_in x < 4294967296) (is_unit kind i) (λ e. unit-small cell) (λ e. number_small (comma_marks sep) (decimals_of kind (unit_in sep line) i) cell)

first_small : (sep kind : ℕ) (line : List ℕ) (n : ℕ) → AllSmall (first_numbers sep kind line n)
unfolding first_numbers
first_small sep kind line zero i = omega arith
first_small sep kind line (suc n) i =
    append_small (first_numbers sep kind line n) (number_in (said_at sep kind line n) ∷ []) (first_small sep kind line n)
    (one_small (number_in (said_at sep kind line n)) (said-small sep kind line n)) i

pub row_small : (sep kind : ℕ) (line : List ℕ) → AllSmall (numbers_said sep kind line)
row_small sep kind line = first_small sep kind line (numbers_of kind)
