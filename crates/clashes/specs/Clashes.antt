-- Why rows can't be written: "Then writing's own: `refused NUMBER PLACE` with the values that clash, as `explain` shows them". The values where a rule of filed records is
-- broken, stated over the records at the places where they would stand. Assumes nothing.
use Rattle.std.specs.Prelude.{ℕ, ◌-◌, ◌*◌, ◌≡◌, cond, List, length, eqb}
use Rattle.form.specs.Layout.{layout, numbers_of}
use Rattle.form.specs.Records.{Filed, filed_rows, id_of}
use Rattle.form.specs.Sums.{column_k, column_l, soil_type}
use Rattle.phrases.specs.Lines.{Line}
use Rattle.reasons.specs.declared.Row.{Row}
use Rattle.reasons.specs.declared.Reason.{Reason}
use Rattle.reasons.specs.declared.Reason.TheVariants.{IdBelow, ClearedAbove}
use Rattle.reasons.specs.Above.{above_from}
use Rattle.reasons.specs.Reasons.{limit_by, fractions_by, soil_by, trees_by}
use Rattle.wording.specs.Wording.{value_lines}

-- the row at a place; the parameters have no id, and their first number is never told
abbrev pub row_here : Filed → ℕ → Row
row_here f p = record { place = p; kind = f.kind p; id = id_of (f.row p) }

-- 12: the wood that was used, 100 K, and the wood that clearing gave, L
abbrev pub wood_clash : Filed → Reason
wood_clash f = ClearedAbove (100 * column_k (filed_rows f 3)) (column_l (filed_rows f 1))

-- what `explain` would say of the written return: by the number, at a place, of rows for a return of this edition. A new number is a new line.
unfoldable pub clash_of : ℕ → Filed → ℕ → ℕ → Reason
clash_of edition f n p =
    cond (eqb n 5) (IdBelow (row_here f p) (id_of (f.row (p - 1))))
    (cond (eqb n 6) (limit_by (row_here f p) (above_from 0 (layout (f.kind p)) (f.row p)))
    (cond (eqb n 7) (fractions_by (row_here f p) (f.row p))
    (cond (eqb n 12) (wood_clash f)
    (cond (eqb n 14) (trees_by (row_here f p) (f.row p) edition)
    (soil_by (row_here f p) (filed_rows f 7) (soil_type (f.row p)))))))

-- its lines
abbrev pub clash_lines : ℕ → Filed → ℕ → ℕ → List Line
clash_lines edition f n p = value_lines (clash_of edition f n p)

-- ---- as the code has them

-- a row as it is named, and its numbers, of a kind that there is
pub record Here (f : Filed) (w : Row) (row : List ℕ) : Type 0 where
  pub named : w ≡ row_here f w.place
  pub numbers : row ≡ f.row w.place
  pub whole : length row ≡ numbers_of w.kind
