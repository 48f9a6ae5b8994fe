-- §11: "Refusals: 13, place of the first row of the lowest soil type whose two area sums differ (for 13 this stands in for 01's lowest place, in §7 too), straight after 12".
-- The figures of mineral soils are in Demand2.
use Rattle.std.specs.Prelude.{ℕ, ◌*◌, ◌≤◌, ◌≡◌, List, Ok}
use Rattle.std.proofs.Common.{sym, ap, ◌∙◌}
use Rattle.form.specs.Records.{filed, filed_rows}
use Rattle.form.specs.Sums.{column_k, column_l, soil_type}
use Rattle.form.specs.Verdict.{form_rules, rows, Formed, verdict_by, verdict_of}
use Rattle.form.specs.declared.Counts.{Counts}
use Rattle.form.specs.Refusals.{Refused}
use Rattle.filing.specs.Lists.{cut, filed_lists}
use Rattle.areas.specs.Place.{Even, FirstOfLowest}
use Rattle.rows.specs.Writing.{write_answer}
use Rattle.steps.proofs.Wood.{wood_passes}
use Rattle.steps.proofs.Soils.{even_good, soil-refused, soil_passes, soil-stops, written-even, unwritten_refused}

-- an accepted return has, of each soil type, as much land now as twenty years ago
pub accepted-even : (s : List ℕ) (c : Counts) → verdict_of s ≡ Ok c → Even (rows 7 s)
accepted-even = even_good

-- where 13 is given, the row at its place is the first of the lowest soil type whose two area sums differ: no lower type's differ, and no row before is of this type
pub refused_13 : (s : List ℕ) (p : ℕ) → verdict_of s ≡ Refused 13 p → FirstOfLowest (filed s) p (soil_type ((filed s).row p))
refused_13 = soil-refused

-- and of a return that keeps 1 to 7, 14 and 12: refused there, where a row is that first one; accepted, where every soil type is even
pub uneven-refused : (s : List ℕ) (c : Counts) → Formed s c → column_l (rows 1 s) ≤ 100 * column_k (rows 3 s)
    → (p type : ℕ) → FirstOfLowest (filed s) p type → verdict_of s ≡ Refused 13 p
unfolding verdict_of
uneven-refused s c f h p type w = ap (verdict_by s) (wood_passes s (form_rules s) f.clean h ∙ soil-stops (filed s) w)

pub even-accepted : (s : List ℕ) (c : Counts) → Formed s c → column_l (rows 1 s) ≤ 100 * column_k (rows 3 s) → Even (rows 7 s) → verdict_of s ≡ Ok c
unfolding verdict_of
even-accepted s c f h e = ap (verdict_by s) (wood_passes s (form_rules s) f.clean h ∙ soil_passes (filed s) e) ∙ sym (ap Ok f.counts)

-- the same of rows to be written, at the place where each would stand
pub written-soils : (edition : ℕ) (lengths area room : List ℕ) (n : ℕ) → write_answer edition lengths area room ≡ Ok n
    → Even (filed_rows (filed_lists (cut lengths area)) 7)
written-soils edition lengths area room n e = written-even edition lengths area room e

pub unwritten_13 : (edition : ℕ) (lengths area room : List ℕ) (p : ℕ) → write_answer edition lengths area room ≡ Refused 13 p
    → let f = filed_lists (cut lengths area) in FirstOfLowest f p (soil_type (f.row p))
unwritten_13 edition lengths area room p e = unwritten_refused edition lengths area room e
