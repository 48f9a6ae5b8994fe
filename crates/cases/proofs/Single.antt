-- Single cases of the table, as the promises take them to shut a wrong answer out. Assumes nothing.
--     lone-answered, spent_answered, many-answered    cases (b), (d) and (f); land-answered, the day with a row each of grass, scattered trees, land, savanna and wheat and two of soil
--     each_differs              every figure of that day is another than that of (b)
--     first-row, first_block_lem    what the first row and the first block of (f) alone would give
--     grown-answered, none_cleared    case (c), and that neither it nor (b) has a conversion row
--     bare_answered, wheat_alone    that day without its wheat: the rows of every other kind are the same, and those of wheat are not
use Prim.Native.Nat.{ℕ, zero, suc, ◌*◌, ◌^◌, ◌<◌}
use mathlib.Core.Path.{◌≡◌, refl, sym, ap, ◌∙◌}
use mathlib.Core.Bool.{Bool}
use mathlib.Core.List.{List, [], ◌∷◌, map}
use native.Mathlib.Omega.{arith}
use borrow.Author.Tests.{eqb-false}
use lib.Dec.{eqb}
use lib.IntN.{ℤ, pos, nat_abs}
use lib.ListN.{get_or, take}
use Rattle.form.specs.First.{first}
use Rattle.form.specs.Bytes.{number, little_endian}
use Rattle.form.specs.Layout.{kinds, row_from}
use Rattle.form.specs.Block.{weighed}
use Rattle.form.specs.Records.{counted_difference, rows_below}
use Rattle.form.specs.Verdict.{rows}
use Rattle.form.specs.Standing.{rows_from}
use Rattle.form.specs.Refusals.{Clean, Ruling}
use Rattle.std.specs.Prelude.{None}
use Rattle.form.proofs.EachKind.{kinds_are}
use Rattle.form.proofs.Search.{first_none}
use Rattle.filing.specs.Lists.{cut, filed_list, behind, filed_from}
use Rattle.filing.specs.Written.{record_from, in_turn, head_of, sealed, record_on, used_from, body_of, block_of, bytes_of}
use Rattle.form.specs.Sums.{sum_of}
use Rattle.totals.specs.Columns.{onsite_part}
use Rattle.trips.proofs.RoundTrips.{lists-rows}
use Rattle.worksheets.specs.Answers.{Outcome, worked, refusal, outcome_of}
use Rattle.wide.specs.Numbers.{value, words_of}
use Rattle.wide.specs.Signs.{amount}
use Rattle.listed.specs.Listed.{listed, figure_count, figure_at}
use Rattle.cases.specs.FromRows.{rows_given}
use Rattle.cases.specs.Cases.{Complete, Case, complete_of, case_of, refused, largest, wheat, with_land, entries, works_out, wanted, table}
use Rattle.cases.proofs.Answered.{all_worked, all_answered}

-- case number i of the table, and what its sheets are answered
abbrev pub nth : ℕ → Case
nth i = get_or table i (case_of (refused [] 0 0))

abbrev sheets_at : ℕ → List Complete → Outcome
sheets_at i l = (get_or l i (record { sheets = refusal 0 0; doubles = [] })).sheets

-- where the worked day with a row each of grass, scattered trees, abandoned land, savanna and wheat and two of soil stands
abbrev pub land_case : ℕ
land_case = 12

pub land-answered : outcome_of (nth land_case).bytes ≡ (nth land_case).answer.sheets
land-answered = ap (sheets_at land_case) all_answered

pub lone-answered : outcome_of (nth 1).bytes ≡ (nth 1).answer.sheets
lone-answered = ap (sheets_at 1) all_answered

pub spent_answered : outcome_of (nth 3).bytes ≡ (nth 3).answer.sheets
spent_answered = ap (sheets_at 3) all_answered

pub many-answered : outcome_of (nth 5).bytes ≡ (nth 5).answer.sheets
many-answered = ap (sheets_at 5) all_answered

abbrev figure_in : ℕ → Outcome → ℤ
figure_in i (worked f) = amount (figure_at (listed f) i).value
figure_in i (refusal n p) = pos 0

abbrev agrees : ℕ → Bool
agrees i = eqb (nat_abs (figure_in i (nth land_case).answer.sheets)) (nat_abs (figure_in i (nth 1).answer.sheets))

none_agrees : first agrees figure_count ≡ None
unfolding first listed value words_of
none_agrees = refl

pub each_differs : (i : ℕ) → i < figure_count → figure_in i (nth land_case).answer.sheets ≡ figure_in i (nth 1).answer.sheets → ⊥
each_differs i l e = eqb-false _ _ (first_none agrees none_agrees i l) (ap nat_abs e)

pub first-row : onsite_part (get_or (rows 1 (nth 5).bytes) 0 []) ≡ 10 ^ 19
unfolding largest filed_list behind filed_from little_endian record_from in_turn head_of sealed weighed record_on used_from body_of block_of bytes_of rows_below row_from number counted_difference onsite_part
first-row = refl

pub first_block_lem : sum_of onsite_part (take 12 (rows 1 (nth 5).bytes)) ≡ 12 * 10 ^ 19
unfolding largest filed_list behind filed_from little_endian record_from in_turn head_of sealed weighed record_on used_from body_of block_of bytes_of rows_below row_from number counted_difference sum_of onsite_part
first_block_lem = refl

pub grown-answered : outcome_of (nth 2).bytes ≡ (nth 2).answer.sheets
grown-answered = ap (sheets_at 2) all_answered

pub none_cleared : (rows 1 (nth 2).bytes ≡ []) × (rows 1 (nth 1).bytes ≡ [])
unfolding filed_list behind filed_from little_endian record_from in_turn head_of sealed weighed record_on used_from body_of block_of bytes_of rows_below row_from number
none_cleared = (refl, refl)

-- where that day stands without its wheat
abbrev pub bare_case : ℕ
bare_case = 13

pub bare_answered : outcome_of (nth bare_case).bytes ≡ (nth bare_case).answer.sheets
bare_answered = ap (sheets_at bare_case) all_answered

-- no rule refuses the rows of case i
clean_at : (i : ℕ) → (get_or (map works_out entries) i (Clean, complete_of [])).0 ≡ (get_or (map wanted entries) i (Clean, complete_of [])).0
clean_at i = ap (λ (l : List (Ruling × Complete)). (get_or l i (Clean, complete_of [])).0) all_worked

-- the rows of a kind, as they are given, with wheat and without it
with_wheat : (k : ℕ) → k < kinds → rows (suc k) (nth land_case).bytes ≡ rows_given (with_land wheat) (suc k)
with_wheat k h = lists-rows 2 (with_land wheat) (clean_at land_case) k h

without_wheat : (k : ℕ) → k < kinds → rows (suc k) (nth bare_case).bytes ≡ rows_given (with_land []) (suc k)
without_wheat k h = lists-rows 2 (with_land []) (clean_at bare_case) k h

pub wheat_alone : ((k : ℕ) → k < 7 → rows (suc k) (nth land_case).bytes ≡ rows (suc k) (nth bare_case).bytes)
    × (rows 8 (nth land_case).bytes ≡ wheat ∷ []) × (rows 8 (nth bare_case).bytes ≡ [])
unfolding cut filed_list rows_from
wheat_alone = (
  λ k h. with_wheat k (omega (arith, kinds_are)) ∙ given k h ∙ sym (without_wheat k (omega (arith, kinds_are))),
  with_wheat 7 (omega (arith, kinds_are)),
  without_wheat 7 (omega (arith, kinds_are)),
)
  where
    given : (k : ℕ) → k < 7 → rows_given (with_land wheat) (suc k) ≡ rows_given (with_land []) (suc k)
    given zero h = refl
    given (suc zero) h = refl
    given (suc (suc zero)) h = refl
    given (suc (suc (suc zero))) h = refl
    given (suc (suc (suc (suc zero)))) h = refl
    given (suc (suc (suc (suc (suc zero))))) h = refl
    given (suc (suc (suc (suc (suc (suc zero)))))) h = refl
    given (suc (suc (suc (suc (suc (suc (suc k))))))) h = absurd (omega arith)
