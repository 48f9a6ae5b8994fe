-- The rows of a kind of a return that can be read row by row, as they are decoded. Assumes nothing.
--     rows_turn       they are those at its places, one after the other; rows_long, how many numbers they are; rows_few, not many
--     places_in       their places are in the blocks
--     rows-counted    taken as a list, they are as many rows; decoded_rows, the same ones
--     list-line       the rows of a list stand one after the other; list-rows, which are its rows
use Prim.Native.Nat.{ℕ, zero, suc, ◌+◌, ◌*◌, ◌/◌, ◌≤◌, ◌<◌}
use mathlib.Core.Path.{◌≡◌, refl, sym, ap, ◌∙◌}
use mathlib.Core.List.{List, ◌++◌, flatten}
use native.Mathlib.Nat.{mul-le-mul, mul-div_cancel_left, zero-add}
use native.Mathlib.Omega.{arith}
use lib.ListN.{length}
use borrow.Author.Tests.{lt-ltb, ltb-true}
use Rattle.form.specs.Layout.{kinds, numbers_of}
use Rattle.form.specs.Block.{blocks}
use Rattle.form.specs.Records.{Filed, filed, filed_rows}
use Rattle.form.specs.Verdict.{row_count, rows, Formed}
use Rattle.form.specs.Standing.{start_block, start_place, rows_from}
use Rattle.form.specs.declared.Counts.{Counts}
use Rattle.form.proofs.Fields.{few_numbers, some_numbers}
use Rattle.standing.proofs.Stand.{start_le, start_all}
use Rattle.standing.proofs.StandRows.{from_same}
use Rattle.standing.proofs.Accepted.{in_order, lies, rows_are, few_rows}
use Rattle.standing.proofs.Lines.{Line, line-rows}
use Rattle.filing.specs.Lists.{rows_in, filed_list}
use Rattle.filing.specs.Written.{in_turn}
use Rattle.filing.specs.Tables.{row_on}
use Rattle.filing.proofs.Stores.{length_turns}
use Rattle.filing.proofs.Parts.{length-row_on}
use Rattle.filing.proofs.Alike.{turn_same}
use Rattle.filing.proofs.Turns.{turn_part}

-- ---- the rows of a list

pub list-line : (k : ℕ) (r : List ℕ) → Line (filed_list k r) k 0 (rows_in k (length r))
unfolding filed_list
list-line k r = record {
  inside = λ i l. omega arith;
  used = λ i l. rw (zero-add i) (lt-ltb i (rows_in k (length r)) l);
  kind = λ i l. refl;
  only = λ j l u e. (omega arith, omega (arith, ltb-true j (rows_in k (length r)) u));
}

pub list-rows : (k : ℕ) (r : List ℕ) → filed_rows (filed_list k r) k ≡ rows_from (filed_list k r) 0 (rows_in k (length r))
list-rows k r = line-rows (list-line k r)

-- ---- the rows of a return

pub flat_from : (f : Filed) (j n : ℕ) → flatten (rows_from f j n) ≡ in_turn f.row j n
unfolding flatten rows_from in_turn
flat_from f j zero = refl
flat_from f j (suc n) = ap (λ (x : List ℕ). f.row j ++ x) (flat_from f (suc j) n)

module _ (s : List ℕ) (c : Counts) (acc : Formed s c) (k : ℕ) (h : k < kinds) where
  pub rows_turn : in_turn (row_on (suc k) s) (start_place (suc k) s) (row_count (suc k) s) ≡ flatten (rows (suc k) s)
  unfolding row_on
  rows_turn =
      turn_same (row_on (suc k) s) (filed s).row (start_place (suc k) s) (start_place (suc k) s) (row_count (suc k) s)
      (λ i l.
      let b : (start_place (suc k) s + i) / 12 ≡ start_block (suc k) s + i / 12 = omega arith in
      rw (b, (lies s c acc (suc k) i (omega arith) h l).kind))
      ∙ sym (flat_from (filed s) (start_place (suc k) s) (row_count (suc k) s))
      ∙ ap flatten (sym (rows_are s c acc (suc k)))

  pub rows_long : length (flatten (rows (suc k) s)) ≡ numbers_of (suc k) * row_count (suc k) s
  rows_long = ap length (sym rows_turn) ∙ length_turns (row_on (suc k) s) (numbers_of (suc k)) (length-row_on (suc k) s) (start_place (suc k) s) (row_count (suc k) s)

  -- at most 32 rows of at most 16 numbers
  pub rows_few : numbers_of (suc k) * row_count (suc k) s ≤ 512
  rows_few = mul-le-mul (few_numbers (suc k)) (few_rows s c acc (suc k))

  -- the places of the kind's rows are in the blocks
  pub places_in : start_place (suc k) s + row_count (suc k) s ≤ 12 * blocks s
  unfolding start_block
  places_in =
      let o = in_order s c acc in
      let le = start_le s o (suc (suc k)) (suc kinds) (omega arith) in
      omega (arith, start_all s o)

  -- taken as a list of rows again
  pub rows-counted : rows_in (suc k) (length (flatten (rows (suc k) s))) ≡ row_count (suc k) s
  rows-counted =
      ap (λ (x : ℕ). x / numbers_of (suc k)) rows_long
      ∙ mul-div_cancel_left (row_count (suc k) s) (some_numbers k h)

  kind_at : (i : ℕ) → i < row_count (suc k) s → row_on (suc k) s (start_place (suc k) s + i) ≡ (filed s).row (start_place (suc k) s + i)
  unfolding row_on
  kind_at i l =
      let b : (start_place (suc k) s + i) / 12 ≡ start_block (suc k) s + i / 12 = omega arith in
      rw (b, (lies s c acc (suc k) i (omega arith) h l).kind)

  pub decoded_rows : filed_rows (filed_list (suc k) (flatten (rows (suc k) s))) (suc k) ≡ rows (suc k) s
  unfolding filed_list
  decoded_rows =
      let r = flatten (rows (suc k) s) in
      list-rows (suc k) r
      ∙ ap (rows_from (filed_list (suc k) r) 0) rows-counted
      ∙ from_same (filed_list (suc k) r) (filed s) 0 (start_place (suc k) s) (row_count (suc k) s)
      (λ i l.
      rw (zero-add i, ← rows_turn)
      (turn_part (row_on (suc k) s) (numbers_of (suc k)) (length-row_on (suc k) s) (row_count (suc k) s) (start_place (suc k) s) i l ∙ kind_at i l))
      ∙ sym (rows_are s c acc (suc k))
