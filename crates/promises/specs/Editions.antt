-- "Edition 1 returns read as before": for edition 1 each rule that the request for abandoned land changed says what 01 says, and nothing else is in the answer
-- but §8's 12; it has no row that §11's 13 could be about.
-- §12. "Edition 3 has no unit code 1. Editions 1 and 2 that use it are read, worked out and written as ever, with the same figures and bytes .. Edition 3 is otherwise edition 2."
use Rattle.std.specs.Prelude.{ℕ, suc, ◌*◌, ◌≤◌, ◌<◌, ◌≡◌, false, List, [], ◌∷◌, ◌++◌, ltb, pos, length, get_or, Ok}
use Rattle.std.proofs.Common.{ap, ◌∙◌}
use Rattle.form.specs.Ruling.{rule, ruling}
use Rattle.form.specs.Layout.{kinds}
use Rattle.form.specs.Edition.{last_kind}
use Rattle.form.specs.Block.{blocks, edition, bad_length, bad_check, bad_header}
use Rattle.form.specs.Records.{filed, is_scattered, test_numbered}
use Rattle.form.specs.Sums.{column_k, column_l, sum_rules}
use Rattle.form.specs.Verdict.{rules, rows, counts_of, verdict_by, verdict_of}
use Rattle.form.specs.FirstEdition.{rules01}
use Rattle.form.specs.SecondEdition.{rules_before, NoneScattered, FirstScattered}
use Rattle.form.specs.declared.Counts.{Counts}
use Rattle.form.specs.Refusals.{Clean, Refused}
use Rattle.form.proofs.Order.{ruled_before, append_same}
use Rattle.form.proofs.SecondEdition as bytes
use Rattle.form.proofs.SecondEdition.{same_kinds, same_test, second_as_before}
use Rattle.standing.proofs.FirstEdition.{as_before}
use Rattle.standing.proofs.Accepted.{formed, none_scattered}
use Rattle.filing.specs.Lists.{cut, filed_lists}
use Rattle.lists.specs.Rules.{list_rules}
use Rattle.lists.specs.SecondEdition.{list_rules_before}
use Rattle.lists.proofs.SecondEdition as lists
use Rattle.lists.proofs.SecondEdition.{written_as_before}
use Rattle.rows.specs.Reading.{outgrown, read_answer}
use Rattle.rows.specs.Writing.{room_rule, written_by, write_answer}
use Rattle.totals.specs.Masses.{carbon}
use Rattle.units.specs.Columns.{co2}
use Rattle.burning.specs.Gases.{gas}
use Rattle.soils.specs.Soils.{soil_gain, soil_change}
use Rattle.worksheets.specs.Sheets.{stock_rows, by_kind, figures_of}
use Rattle.worksheets.specs.Answers.{outcome_by, outcome_of}
use Rattle.doubles.specs.Subtotals.{answer_by, answer_of}
use Rattle.steps.proofs.Wood.{wood_passes, wood-stops}
use Rattle.steps.proofs.Soils.{first-kept, first-rules}
use Rattle.steps.proofs.Scattered.{no_scattered}
use Rattle.steps.proofs.Trees.{none_written, trees-refused, trees_unwritten}
use Rattle.steps.proofs.Editions.{edition_told, ten_blocks, above_ten, no_land, no_uptake, no_savanna, no_fire, no_soil, no_change, no_crop, no_residue}

-- the answer tells the edition, which stands in block 0
pub tells_edition : (s : List ℕ) (c : Counts) → verdict_of s ≡ Ok c → c.edition ≡ edition s 0
tells_edition = edition_told

-- bytes that say edition 1: refused or accepted by 01's own rules, in their order, and behind them by 12 alone; so with 01's number and place
pub first_as_before : (s : List ℕ) → edition s 0 ≡ 1 → length s ≤ 5120
    → ruling (rules s) ≡ ruling (rules01 s ++ (rule 12 1 (λ p. ltb (100 * column_k (rows 3 s)) (column_l (rows 1 s))) ∷ []))
first_as_before s one short = as_before s one short ∙ first-rules s one short

-- what 01 refuses is refused as before, with that number and place; what it accepts is accepted, but for 12
pub first-refused_as_before : (s : List ℕ) → edition s 0 ≡ 1 → length s ≤ 5120 → (n p : ℕ) → ruling (rules01 s) ≡ Refused n p → verdict_of s ≡ Refused n p
unfolding verdict_of
first-refused_as_before s one short n p e = ap (verdict_by s) (as_before s one short ∙ ruled_before (rules01 s) (sum_rules (filed s)) e)

pub first-accepted_but_for_12 : (s : List ℕ) → edition s 0 ≡ 1 → length s ≤ 5120 → ruling (rules01 s) ≡ Clean
    → (column_l (rows 1 s) ≤ 100 * column_k (rows 3 s) → verdict_of s ≡ Ok (counts_of s)) × (100 * column_k (rows 3 s) < column_l (rows 1 s) → verdict_of s ≡ Refused 12 0)
unfolding verdict_of
first-accepted_but_for_12 s one short clean = (
  λ h. ap (verdict_by s) (as_before s one short ∙ wood_passes s (rules01 s) clean h ∙ first-kept s one short clean),
  λ h. ap (verdict_by s) (as_before s one short ∙ wood-stops s (rules01 s) clean h),
)

-- "4 then stops an edition 1 return above ten": one that 1 to 3 let pass is refused by 4
pub first-above_ten : (s : List ℕ) → edition s 0 ≡ 1 → 10 < blocks s → bad_length s ≡ false
    → ((b : ℕ) → b < blocks s → bad_check s b ≡ false) → ((b : ℕ) → b < blocks s → bad_header s b ≡ false)
    → (place : ℕ) × (verdict_of s ≡ Refused 4 place)
first-above_ten s one more length-kept checks headers = above_ten s one length-kept checks headers more

-- so none is accepted
pub first_ten_blocks : (s : List ℕ) → edition s 0 ≡ 1 → (c : Counts) → verdict_of s ≡ Ok c → length s ≤ 5120
first_ten_blocks = ten_blocks

-- and it has no abandoned land
pub first_no_land : (s : List ℕ) → edition s 0 ≡ 1 → (c : Counts) → verdict_of s ≡ Ok c
    → (c.abandoned ≡ 0) × ((figures_of (by_kind s)).abandoned ≡ record { uptake = carbon 0; co2 = co2 0 })
first_no_land s e c acc = (no_land s c acc e, no_uptake s c acc e)

-- nor savannas
pub first_no_savanna : (s : List ℕ) → edition s 0 ≡ 1 → (c : Counts) → verdict_of s ≡ Ok c
    → (c.savanna ≡ 0) × ((figures_of (by_kind s)).savannas ≡ record { carbon = carbon 0; gases = record { ch4 = gas 0; co = gas 0; n2o = gas 0; nox = gas 0 } })
first_no_savanna s e c acc = (no_savanna s c acc e, no_fire s c acc e)

-- nor mineral soils
pub first_no_soil : (s : List ℕ) → edition s 0 ≡ 1 → (c : Counts) → verdict_of s ≡ Ok c
    → (c.soils ≡ 0) × ((figures_of (by_kind s)).soils ≡ record { soil = soil_gain (pos 0); change = soil_change (pos 0) })
first_no_soil s e c acc = (no_soil s c acc e, no_change s c acc e)

-- nor crop residues
pub first_no_crop : (s : List ℕ) → edition s 0 ≡ 1 → (c : Counts) → verdict_of s ≡ Ok c
    → (c.crops ≡ 0) × ((figures_of (by_kind s)).crops ≡ record { carbon = carbon 0; gases = record { ch4 = gas 0; co = gas 0; n2o = gas 0; nox = gas 0 } })
first_no_crop s e c acc = (no_crop s c acc e, no_residue s c acc e)

-- ---- §12: what does not say edition 3, "as ever"

-- bytes that do not: refused or accepted by the rules as they were before there was one, in their order, with the same number and place
pub as_ever : (s : List ℕ) → (edition s 0 ≡ 3 → ⊥) → ruling (rules s) ≡ ruling (rules_before 2 s)
as_ever = second_as_before

-- so each answer is the one of those rules, "read, worked out": what it has of an accepted return, its rows, figures and doubles, is as it was defined
pub judged_as_ever : (s : List ℕ) → (edition s 0 ≡ 3 → ⊥) → verdict_of s ≡ verdict_by s (ruling (rules_before 2 s))
unfolding verdict_of
judged_as_ever s h = ap (verdict_by s) (as_ever s h)

pub read_as_ever : (s room : List ℕ) → (edition s 0 ≡ 3 → ⊥)
    → read_answer s room ≡ verdict_by s (ruling (rules_before 2 s ++ (rule 9 (suc kinds) (outgrown s (length room)) ∷ [])))
unfolding read_answer
read_as_ever s room h = ap (verdict_by s) (append_same (rules s) (rules_before 2 s) _ (as_ever s h))

pub worked_as_ever : (s : List ℕ) → (edition s 0 ≡ 3 → ⊥) → outcome_of s ≡ outcome_by s (verdict_by s (ruling (rules_before 2 s)))
worked_as_ever s h = ap (outcome_by s) (judged_as_ever s h)

pub doubles_as_ever : (s : List ℕ) → (edition s 0 ≡ 3 → ⊥) → answer_of s ≡ answer_by s (verdict_by s (ruling (rules_before 2 s)))
doubles_as_ever s h = ap (answer_by s) (judged_as_ever s h)

-- rows for another edition than 3: "written as ever", by the rules of writing as they were, to the bytes that `written` makes of them
pub written_as_ever : (e : ℕ) (lengths area room : List ℕ) → (e ≡ 3 → ⊥)
    → write_answer e lengths area room ≡ written_by e (cut lengths area) (ruling (list_rules_before e lengths area ++ (room_rule e (cut lengths area) room ∷ [])))
unfolding write_answer
written_as_ever e lengths area room h =
    ap (written_by e (cut lengths area)) (append_same (list_rules e lengths area) (list_rules_before e lengths area) _ (written_as_before e lengths area h))

-- ---- "Edition 3 is otherwise edition 2"

-- it has the same kinds, and every other rule of one row asks the same
pub third-kinds : last_kind 3 ≡ last_kind 2
third-kinds = same_kinds

pub third_tests : (n kind : ℕ) (r : List ℕ) → (n ≡ 14 → ⊥) → test_numbered n 3 kind r ≡ test_numbered n 2 kind r
third_tests = same_test

-- bytes of edition 3 without scattered trees are ruled by edition 2's rules with 3 in its number's place; rows to be written without them, as in edition 2
pub third-read : (s : List ℕ) → edition s 0 ≡ 3 → NoneScattered (filed s) → ruling (rules s) ≡ ruling (rules_before 3 s)
third-read = bytes.third_as_second

pub third-written : (lengths area : List ℕ) → NoneScattered (filed_lists (cut lengths area)) → ruling (list_rules 3 lengths area) ≡ ruling (list_rules 2 lengths area)
third-written = lists.third_as_second

-- ---- "Edition 3 has no unit code 1"

-- no accepted return of edition 3 has a stock row of scattered trees
pub third_none : (s : List ℕ) (c : Counts) → verdict_of s ≡ Ok c → edition s 0 ≡ 3 → (i : ℕ) → i < length (rows 2 s) → is_scattered (get_or (rows 2 s) i []) ≡ false
third_none s c acc three = none_scattered s c (formed s c acc) three

-- so none is counted: neither in the answer's counts nor as a figure
pub third-counts_none : (s : List ℕ) (c : Counts) → verdict_of s ≡ Ok c → edition s 0 ≡ 3 → (c.scattered ≡ 0) × ((figures_of (by_kind s)).scattered ≡ stock_rows 0)
third-counts_none s c acc three = no_scattered s c acc three

-- nor is one written
pub third_none_written : (lengths area room : List ℕ) (n : ℕ) → write_answer 3 lengths area room ≡ Ok n → NoneScattered (filed_lists (cut lengths area))
third_none_written = none_written

-- where 14 is given, its place is the first stock row of scattered trees, in edition 3; the same of rows to be written, where each would stand
pub refused_14 : (s : List ℕ) (p : ℕ) → verdict_of s ≡ Refused 14 p → FirstScattered (edition s 0) (filed s) p
refused_14 = trees-refused

pub unwritten_14 : (e : ℕ) (lengths area room : List ℕ) (p : ℕ) → write_answer e lengths area room ≡ Refused 14 p → FirstScattered e (filed_lists (cut lengths area)) p
unwritten_14 = trees_unwritten
