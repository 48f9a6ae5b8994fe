-- §7: "For an accepted return and one of the three subtotals it names the row with the largest exact part, the lower id on a tie, 'none' where the subtotal is zero."
-- How it is found, row by row; specs/Largest says what it then is.
use Rattle.std.specs.Prelude.{ℕ, cond, List, [], ◌∷◌, ◌++◌, ltb, eqb, Err}
use Rattle.form.specs.Ruling.{Rule, ruling}
use Rattle.form.specs.Records.{id_of}
use Rattle.form.specs.Verdict.{rules, rows}
use Rattle.form.specs.Refusals.{Clean, Ruling}
use Rattle.heaviest.specs.Named.{Named, NoRow, Row}
use Rattle.totals.specs.Columns.{onsite_part, offsite_part, decay_part}
use Rattle.totals.specs.Codes.{by_code, wrong_code}
use Rattle.totals.specs.declared.Parts.{Parts}
use Rattle.heaviest.specs.declared.Weight.{Weight}
use Rattle.heaviest.specs.declared.Weights.{Weights}

-- before any row: no id and no part
abbrev pub no_weight : Weight
no_weight = record { id = 0; part = 0 }

-- one row more: it is the heavier one where its part is above the best so far, so the first of equal rows stays
unfoldable pub heavier : Weight → ℕ → ℕ → Weight
heavier best id part = cond (ltb best.part part) (record { id = id; part = part }) best

-- the same of a row, by what is taken as its part
abbrev pub heavier_of : (List ℕ → ℕ) → Weight → List ℕ → Weight
heavier_of f best r = heavier best (id_of r) (f r)

-- through the rows in order, from the best so far
unfoldable pub heaviest_from : (List ℕ → ℕ) → Weight → List (List ℕ) → Weight
heaviest_from f best [] = best
heaviest_from f best (r ∷ rs) = heaviest_from f (heavier_of f best r) rs

-- "the row with the largest exact part", by its id and its part; part 0 where no row has any
abbrev pub heaviest_in : (List ℕ → ℕ) → List (List ℕ) → Weight
heaviest_in f rs = heaviest_from f no_weight rs

-- "one of the three subtotals", by its code
unfoldable pub part_by : ℕ → List ℕ → ℕ
part_by code r = by_code code (onsite_part r) (offsite_part r) (decay_part r)

-- its heaviest row in a return
abbrev pub heaviest_by : ℕ → List ℕ → Weight
heaviest_by code s = heaviest_in (part_by code) (rows 1 s)

-- the row is named, "'none' where the subtotal is zero"
unfoldable pub named_of : Weight → Named
named_of w = cond (eqb w.part 0) NoRow (Row w.id w.part)

-- "Refusals: those of the sheets, then 11 for a subtotal's code above 2"
abbrev pub heaviest_rules : List ℕ → ℕ → List Rule
heaviest_rules s code = rules s ++ (wrong_code code ∷ [])

abbrev pub named_by : List ℕ → ℕ → Ruling → Named
named_by s code Clean = named_of (heaviest_by code s)
named_by s code (Err r) = Err r

abbrev pub heaviest_answer : List ℕ → ℕ → Named
heaviest_answer s code = named_by s code (ruling (heaviest_rules s code))

-- ---- all three at once, as the code works them out in one pass

-- one row more, by its id and its parts
abbrev pub heavier_three : Weights → ℕ → Parts → Weights
heavier_three best id p = record {
  onsite = heavier best.onsite id p.onsite.0;
  offsite = heavier best.offsite id p.offsite.0;
  decay = heavier best.decay id p.decay.0;
}

abbrev pub heaviest_rows : List (List ℕ) → Weights
heaviest_rows rs = record { onsite = heaviest_in onsite_part rs; offsite = heaviest_in offsite_part rs; decay = heaviest_in decay_part rs }

abbrev pub heaviest_of : List ℕ → Weights
heaviest_of s = heaviest_rows (rows 1 s)

-- one of them, by its code
abbrev pub weight_by : ℕ → Weights → Weight
weight_by code t = by_code code t.onsite t.offsite t.decay
