-- THE ROWS OF A TEXT ARE THE NUMBERS THAT ITS FIELDS SAY. Assumes nothing.
--     whole_worth     digits alone: their number, times ten for each decimal of the field
--     marked_worth    digits, a mark and digits: what stands before it and what stands behind it, and no decimal more than the field has
use Prim.Native.Nat.{ℕ, suc, ◌+◌, ◌-◌, ◌*◌, ◌^◌, ◌<◌, ◌≤◌}
use mathlib.Core.Path.{◌≡◌, sym, ap, ◌∙◌}
use mathlib.Core.Bool.{true, false}
use mathlib.Core.List.{List, ◌∷◌, ◌++◌}
use native.Mathlib.Decide.{dec_lt}
use native.Mathlib.Omega.{arith}
use lib.ListN.{length, get_or}
use Rattle.std.specs.Prelude.{Result, Ok, Err}
use Rattle.form.specs.Layout.{numbers_of}
use Rattle.cells.specs.Cells.{cell_at}
use Rattle.numerals.specs.Numerals.{is_mark, AllDigits, value_of, read_number}
use Rattle.numerals.specs.declared.NumberFault.{NumberFault}
use Rattle.numerals.specs.declared.NumberFault.TheVariants.{ManyDecimals, Large}
use Rattle.numerals.proofs.Meaning.{says-whole, says_large, says_too_many, says-marked, says-marked_large}
use Rattle.columns.specs.Columns.{decimals_of, is_unit}
use Rattle.rowtext.specs.Said.{comma_marks, number_said, cell_said, number_in, unit_in, numbers_said, row_said}
use Rattle.rowtext.specs.declared.FieldFault.{FieldFault}
use Rattle.rowtext.proofs.Laws.{whole_says}

-- what says a number is its units
said-units : (n : ℕ) (m : Result ℕ NumberFault) → number_said m ≡ Ok n → m ≡ Ok n
said-units n (Ok k) e = ap (λ (s : Result ℕ FieldFault). Ok (number_in s)) e
said-units n (Err f) e = let z : ◌≡◌ {A = ℕ} 0 1 = cc in absurd (omega arith)

same_units : (m n : ℕ) → ◌≡◌ {A = Result ℕ NumberFault} (Ok m) (Ok n) → m ≡ n
same_units m n e = ap (λ (x : Result ℕ NumberFault). number_in (number_said x)) e

-- a row that is read, and field i of it, which is no unit
module _ (sep kind : ℕ) (l : List ℕ) (read : row_said sep kind l ≡ Ok tt) (i : ℕ) (h : i < numbers_of kind) (number : is_unit kind i ≡ false) where
  -- its decimals, by the row's unit
  decimals : ℕ
  decimals = decimals_of kind (unit_in sep l) i

  units-read : read_number (comma_marks sep) decimals (cell_at sep (suc i) l) ≡ Ok (get_or (numbers_said sep kind l) i 0)
  unfolding cell_said decimals
  units-read = said-units _ _ (rw number at (whole_says sep kind l read i h))

  module _ (a : List ℕ) (are : AllDigits a) (some : 0 < length a) where
    pub whole_worth : cell_at sep (suc i) l ≡ a → get_or (numbers_said sep kind l) i 0 ≡ value_of a * 10 ^ decimals_of kind (unit_in sep l) i
    unfolding decimals
    whole_worth cell = by (dec_lt 4294967295 (value_of a * 10 ^ decimals)) (sym (ap (read_number (comma_marks sep) decimals) cell) ∙ units-read)
      where
        by : Dec (4294967295 < value_of a * 10 ^ decimals) → read_number (comma_marks sep) decimals a ≡ Ok (get_or (numbers_said sep kind l) i 0)
            → get_or (numbers_said sep kind l) i 0 ≡ value_of a * 10 ^ decimals
        by (yes large) u =
            let e : Err Large ≡ Ok (get_or (numbers_said sep kind l) i 0) = sym (says_large (comma_marks sep) decimals a are some large) ∙ u in
            let z : ◌≡◌ {A = ℕ} 0 1 = cc in
            absurd (omega arith)
        by (no few) u = same_units _ _ (sym u ∙ says-whole (comma_marks sep) decimals a are some (omega (arith, few)))

    -- with a mark: few enough decimals, and the number that they say
    pub record Marked (b : List ℕ) : Type 0 where
      pub few : length b ≤ decimals_of kind (unit_in sep l) i
      pub worth : get_or (numbers_said sep kind l) i 0
          ≡ value_of a * 10 ^ decimals_of kind (unit_in sep l) i + value_of b * 10 ^ (decimals_of kind (unit_in sep l) i - length b)

    module _ (m : ℕ) (mark : is_mark (comma_marks sep) m ≡ true) (b : List ℕ) (behind : AllDigits b) (some_behind : 0 < length b) where
      not_units : (x : Result ℕ NumberFault) → read_number (comma_marks sep) decimals (a ++ m ∷ b) ≡ x → read_number (comma_marks sep) decimals (a ++ m ∷ b) ≡ Ok (get_or (numbers_said sep kind l) i 0)
          → x ≡ Ok (get_or (numbers_said sep kind l) i 0)
      not_units x e u = sym e ∙ u

      pub marked_worth : cell_at sep (suc i) l ≡ a ++ m ∷ b → Marked b
      unfolding decimals
      marked_worth cell = by (dec_lt decimals (length b)) (sym (ap (read_number (comma_marks sep) decimals) cell) ∙ units-read)
        where
          n : ℕ
          n = value_of a * 10 ^ decimals + value_of b * 10 ^ (decimals - length b)

          size : length b ≤ decimals → Dec (4294967295 < n) → read_number (comma_marks sep) decimals (a ++ m ∷ b) ≡ Ok (get_or (numbers_said sep kind l) i 0) → Marked b
          size few (yes large) u =
              let e = not_units (Err Large) (says-marked_large (comma_marks sep) decimals a are some m mark b behind some_behind few large) u in
              let z : ◌≡◌ {A = ℕ} 0 1 = cc in
              absurd (omega arith)
          size few (no fits) u = record {
            few = few;
            worth = same_units _ _ (sym u ∙ says-marked (comma_marks sep) decimals a are some m mark b behind some_behind few (omega (arith, fits)));
          }

          by : Dec (decimals < length b) → read_number (comma_marks sep) decimals (a ++ m ∷ b) ≡ Ok (get_or (numbers_said sep kind l) i 0) → Marked b
          by (yes many) u =
              let e = not_units (Err ManyDecimals) (says_too_many (comma_marks sep) decimals a are some m mark b behind some_behind many) u in
              let z : ◌≡◌ {A = ℕ} 0 1 = cc in
              absurd (omega arith)
          by (no few) u = size (omega (arith, few)) (dec_lt 4294967295 n) u
