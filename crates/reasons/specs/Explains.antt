-- §7. "Values that stand in the return are proved to be those at that place, a computed one to follow its rule in 01": what each case says of the bytes.
use Rattle.std.specs.Prelude.{ℕ, ◌+◌, ◌-◌, ◌*◌, ◌<◌, ◌≤◌, ◌≡◌, true, List, length}
use Rattle.form.specs.Layout.{kinds, parameters_kind, layout}
use Rattle.form.specs.Block.{blocks, edition, check_said, check_due, bad_length, bad_header}
use Rattle.form.specs.Records.{filed, has_id, unit_code, id_of, onsite, offsite, decay}
use Rattle.form.specs.Sums.{column_k, column_l, sum_now, sum_then}
use Rattle.form.specs.Verdict.{rows}
use Rattle.areas.specs.Place.{FirstOfLowest}
use Rattle.faults.specs.declared.Fault.{Fault}
use Rattle.faults.specs.Faults.{Faulty}
use Rattle.reasons.specs.declared.row_reasons.Above.{Above}
use Rattle.reasons.specs.declared.Row.{Row}
use Rattle.reasons.specs.declared.Reason.{Reason}
use Rattle.reasons.specs.declared.Reason.TheVariants.{BadLength, BadCheck, BadHeader, BadBlock, IdBelow, FieldAbove, FractionsAbove, ClearedAbove, SoilUneven, ScatteredTrees}
use Rattle.reasons.specs.Above.{FirstAbove}
use Rattle.reasons.specs.Reasons.{header_of}

-- the row that a reason names: its place holds a record, of a kind that there is; its kind is that record's, and its id too, but for the parameters, which
-- have none
pub record RowStands (s : List ℕ) (w : Row) : Type 0 where
  pub inside : w.place < 12 * blocks s
  pub used_there : (filed s).used w.place ≡ true
  pub kind_there : w.kind ≡ (filed s).kind w.place
  pub known-kind : (0 < w.kind) × (w.kind ≤ kinds)
  pub id_there : (w.kind ≡ parameters_kind → ⊥) → w.id ≡ id_of ((filed s).row w.place)

-- a case for each number
pub data Explains (s : List ℕ) : Reason → Type 0 where
  -- 1: the length, which is not a good one
  length_1 : bad_length s ≡ true → Explains s (BadLength (length s))
  -- 2: the check that stands in the block is not the one that is due
  check_2 : (b : ℕ) → b < blocks s → (check_said s b ≡ check_due s b → ⊥) → Explains s (BadCheck b (check_said s b) (check_due s b))
  -- 3: the header as it stands, beside the number of blocks there are and block 0's edition
  header_3 : (b : ℕ) → b < blocks s → bad_header s b ≡ true → Explains s (BadHeader b (header_of s b) (blocks s) (edition s 0))
  -- 4: the header as it stands, and the block's first fault
  block_4 : (b : ℕ) (f : Fault) → b < blocks s → Faulty s b f → Explains s (BadBlock b (header_of s b) f)
  -- 5: the two ids, of records of one kind, one behind the other
  ids_5 : (w : Row) → RowStands s w → 0 < w.place → has_id w.kind ≡ true → (filed s).kind (w.place - 1) ≡ w.kind
      → w.id ≤ id_of ((filed s).row (w.place - 1)) → Explains s (IdBelow w (id_of ((filed s).row (w.place - 1))))
  -- 6: the first field above its limit
  field_6 : (w : Row) (a : Above) → RowStands s w → FirstAbove (layout w.kind) ((filed s).row w.place) a
      → Explains s (FieldAbove w a.field a.value a.limit)
  -- 7: the fractions of a conversion row, and their sum above 1,000
  fractions_7 : (w : Row) → RowStands s w → w.kind ≡ 1
      → 1000 < onsite ((filed s).row w.place) + offsite ((filed s).row w.place) + decay ((filed s).row w.place)
      → Explains s (FractionsAbove w (onsite ((filed s).row w.place)) (offsite ((filed s).row w.place)) (decay ((filed s).row w.place))
      (onsite ((filed s).row w.place) + offsite ((filed s).row w.place) + decay ((filed s).row w.place)))
  -- 12: 100 K of the harvest rows, and L of the conversion rows, which is above it
  wood_12 : 100 * column_k (rows 3 s) < column_l (rows 1 s) → Explains s (ClearedAbove (100 * column_k (rows 3 s)) (column_l (rows 1 s)))
  -- 13: the row is the first of the lowest soil type whose two area sums differ; that type, and the sums
  soils_13 : (w : Row) (t : ℕ) → RowStands s w → FirstOfLowest (filed s) w.place t → Explains s (SoilUneven w t (sum_now (rows 7 s) t) (sum_then (rows 7 s) t))
  -- 14: the unit code of a stock row, which is 1, and the edition, which is 3
  trees_14 : (w : Row) → RowStands s w → w.kind ≡ 2 → unit_code ((filed s).row w.place) ≡ 1 → edition s 0 ≡ 3
      → Explains s (ScatteredTrees w (unit_code ((filed s).row w.place)) (edition s 0))
