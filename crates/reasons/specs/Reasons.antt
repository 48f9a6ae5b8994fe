-- §7. "says, for a refusal, the number, the place and the values that clash: the length, stored and computed check, the block's header or non-zero byte, the two ids,
-- the field and its limit, the sum of the fractions." §8: "The explaining tool then shows 100K and L."; §11: for 13 the soil type and its two area sums;
-- §12: for 14 the unit code and the edition.
use Rattle.std.specs.Prelude.{ℕ, ◌+◌, ◌-◌, ◌*◌, ◌/◌, ◌%◌, cond, List, length, eqb}
use Rattle.form.specs.Bytes.{number}
use Rattle.form.specs.Layout.{layout}
use Rattle.form.specs.Block.{blocks, kind_of, count_of, block_number, blocks_said, edition, record_at, check_said, check_due}
use Rattle.form.specs.Records.{filed, unit_code, id_of, onsite, offsite, decay}
use Rattle.form.specs.Sums.{column_k, column_l, soil_type, sum_now, sum_then}
use Rattle.form.specs.Verdict.{rows}
use Rattle.form.specs.Refusals.{Refused, Ruling}
use Rattle.faults.specs.Faults.{fault_of}
use Rattle.reasons.specs.declared.row_reasons.Above.{Above}
use Rattle.reasons.specs.declared.Header.{Header}
use Rattle.reasons.specs.declared.Row.{Row}
use Rattle.reasons.specs.declared.Reason.{Reason}
use Rattle.reasons.specs.declared.Reason.TheVariants.{BadLength, BadCheck, BadHeader, BadBlock, IdBelow, FieldAbove, FractionsAbove, ClearedAbove, SoilUneven, ScatteredTrees}
use Rattle.reasons.specs.Above.{above_from}

-- "a definition gives this paper's number and values for each of its cases": the number and the place of a reason
abbrev pub refusal_of : Reason → Ruling
refusal_of (BadLength n) = Refused 1 0
refusal_of (BadCheck b x y) = Refused 2 b
refusal_of (BadHeader b h n e) = Refused 3 b
refusal_of (BadBlock b h f) = Refused 4 b
refusal_of (IdBelow w x) = Refused 5 w.place
refusal_of (FieldAbove w i v l) = Refused 6 w.place
refusal_of (FractionsAbove w n f d t) = Refused 7 w.place
refusal_of (ClearedAbove u l) = Refused 12 0
refusal_of (SoilUneven w t n o) = Refused 13 w.place
refusal_of (ScatteredTrees w c e) = Refused 14 w.place

-- the header of block b, as it stands there
abbrev pub header_of : List ℕ → ℕ → Header
header_of s b = record { kind = kind_of s b; count = count_of s b; number = block_number s b; blocks = blocks_said s b; edition = edition s b }

-- 2: the check that stands in block b, and the one that is due
abbrev pub check_reason : List ℕ → ℕ → Reason
check_reason s b = BadCheck b (check_said s b) (check_due s b)

-- 3: the block number that is due is b itself; the number of blocks, and block 0's edition
abbrev pub header_reason : List ℕ → ℕ → Reason
header_reason s b = BadHeader b (header_of s b) (blocks s) (edition s 0)

-- 4
abbrev pub block_reason : List ℕ → ℕ → Reason
block_reason s b = BadBlock b (header_of s b) (fault_of s b)

-- the row at a place, which each number of a row names: the kind of its block, and the four bytes at the front of its record. These are its id; the parameters
-- have none there (`RowStands`)
abbrev pub row_named : List ℕ → ℕ → Row
row_named s p = record { place = p; kind = (filed s).kind p; id = number 4 s (record_at (p / 12) (p % 12)) }

-- 5: the row, whose id is one of the two, and the id of the record one place lower
abbrev pub id_reason : List ℕ → ℕ → Reason
id_reason s p = IdBelow (row_named s p) (id_of ((filed s).row (p - 1)))

-- 6: the first field above its limit
abbrev pub limit_by : Row → Above → Reason
limit_by w a = FieldAbove w a.field a.value a.limit

abbrev pub limit_reason : List ℕ → ℕ → Reason
limit_reason s p = limit_by (row_named s p) (above_from 0 (layout ((filed s).kind p)) ((filed s).row p))

-- 7: the three fractions and their sum
abbrev pub fractions_by : Row → List ℕ → Reason
fractions_by w r = FractionsAbove w (onsite r) (offsite r) (decay r) (onsite r + offsite r + decay r)

abbrev pub fractions_reason : List ℕ → ℕ → Reason
fractions_reason s p = fractions_by (row_named s p) ((filed s).row p)

-- 12: the wood that was used, 100 K, and the wood that clearing gave, L, both in 10^-6 kt
abbrev pub wood_reason : List ℕ → Reason
wood_reason s = ClearedAbove (100 * column_k (rows 3 s)) (column_l (rows 1 s))

-- 13: the row, its soil type, and the type's area sums, now and twenty years ago
abbrev pub soil_by : Row → List (List ℕ) → ℕ → Reason
soil_by w soils t = SoilUneven w t (sum_now soils t) (sum_then soils t)

abbrev pub soil_reason : List ℕ → ℕ → Reason
soil_reason s p = soil_by (row_named s p) (rows 7 s) (soil_type ((filed s).row p))

-- 14: the row, its unit code, and the return's edition
abbrev pub trees_by : Row → List ℕ → ℕ → Reason
trees_by w r e = ScatteredTrees w (unit_code r) e

abbrev pub trees_reason : List ℕ → ℕ → Reason
trees_reason s p = trees_by (row_named s p) ((filed s).row p) (edition s 0)

-- the values that clash where number n is given at place p. A new number is a new line.
unfoldable pub reason_of : List ℕ → ℕ → ℕ → Reason
reason_of s n p =
    cond (eqb n 1) (BadLength (length s))
    (cond (eqb n 2) (check_reason s p)
    (cond (eqb n 3) (header_reason s p)
    (cond (eqb n 4) (block_reason s p)
    (cond (eqb n 5) (id_reason s p)
    (cond (eqb n 6) (limit_reason s p)
    (cond (eqb n 7) (fractions_reason s p)
    (cond (eqb n 12) (wood_reason s)
    (cond (eqb n 14) (trees_reason s p)
    (soil_reason s p)))))))))
