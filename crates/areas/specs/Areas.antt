-- Rule 13, as the code goes through it: the soil rows of a list, the two area sums of a soil type, the lowest type whose sums differ.
use Rattle.std.specs.Prelude.{ℕ, ◌+◌, cond, ◌&&◌, List, [], ◌∷◌, ltb, length, Option}
use Rattle.form.specs.First.{first}
use Rattle.form.specs.Ruling.{Rule, rule, refuse}
use Rattle.form.specs.Records.{Filed, filed_rows}
use Rattle.form.specs.Sums.{area_now, area_then, area_in, sum_now, sum_then, uneven, type_of, lowest_uneven, soil_uneven}
use Rattle.form.specs.Refusals.{Clean, Ruling}
use Rattle.filing.specs.Lists.{filed_list}
use Rattle.lists.specs.Rules.{shifted}
use Rattle.areas.specs.declared.Areas.{Areas}
use Rattle.areas.specs.declared.Lowest.{Lowest}

-- the soil rows of a list of their numbers
abbrev pub soils_in : List ℕ → List (List ℕ)
soils_in r = filed_rows (filed_list 7 r) 7

-- the two area sums of a soil type
abbrev pub areas_of : List (List ℕ) → ℕ → Areas
areas_of soils type = record { now = sum_now soils type; then = sum_then soils type }

-- and with one row more
abbrev pub with_row : ℕ → Areas → List ℕ → Areas
with_row type a r = record { now = a.now + area_in type area_now r; then = a.then + area_in type area_then r }

-- the lowest uneven type that was found, with its row, or this one
abbrev pub lower_of : List (List ℕ) → Lowest → ℕ → ℕ → Lowest
lower_of soils best type i = cond (ltb type best.soil && uneven soils type) (record { soil = type; row = i }) best

-- the first row of the lowest soil type whose two area sums differ
abbrev pub first_uneven : List (List ℕ) → Option ℕ
first_uneven soils = first (λ i. lowest_uneven soils (type_of soils i)) (length soils)

-- 13 by itself, and of rows the first of which stands at a place
abbrev pub soil_rules : Filed → List Rule
soil_rules f = rule 13 f.places (soil_uneven f) ∷ []

abbrev pub ruled_from : ℕ → List (List ℕ) → Ruling
ruled_from place soils = refuse 13 (shifted place (first_uneven soils)) Clean
