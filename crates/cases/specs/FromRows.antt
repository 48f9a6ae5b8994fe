-- The answer to a return that is written from rows, from the rows alone: by the round trip no rule refuses it and its rows are these. So the checker need not compute its bytes.
use Rattle.std.specs.Prelude.{ℕ, suc, ◌<◌, ◌≡◌, length, Ok}
use Rattle.std.proofs.Common.{ap, ◌∙◌}
use mathlib.Core.List.{List, flatten, map}
use Rattle.form.specs.Ruling.{ruling}
use Rattle.form.specs.Layout.{kinds}
use Rattle.form.specs.Standing.{rows_from}
use Rattle.form.specs.Verdict.{rows}
use Rattle.form.specs.Refusals.{Clean}
use Rattle.form.proofs.EachKind.{one_kind}
use Rattle.filing.specs.Lists.{Lists, of_kind, rows_in, filed_list}
use Rattle.lists.specs.Rules.{list_rules}
use Rattle.rows.specs.Writing.{written}
use Rattle.trips.proofs.RoundTrips.{lists-accepted, lists-rows}
use Rattle.worksheets.specs.Sheets.{Rows, by_kind, figures_of}
use Rattle.worksheets.specs.Answers.{worked, outcome_by, outcome_of}
use Rattle.worksheets.proofs.Accepted.{same_figures}
use Rattle.doubles.specs.Subtotals.{subtotals_of, answer_by, answer_of}

-- the rows of a kind, one by one
abbrev pub rows_given : Lists → Rows
rows_given l k = rows_from (filed_list k (of_kind l k)) 0 (rows_in k (length (of_kind l k)))

module _ (ed : ℕ) (l : Lists) (clean : ruling (list_rules ed (map length l) (flatten l)) ≡ Clean) where
  at : (k : ℕ) → k < kinds → rows (suc k) (written ed l) ≡ rows_given l (suc k)
  at k h = lists-rows ed l clean k h

  -- its sheets
  pub sheets_from_rows : outcome_of (written ed l) ≡ worked (figures_of (rows_given l))
  sheets_from_rows = ap (outcome_by (written ed l)) (lists-accepted ed l clean) ∙ ap worked (same_figures (by_kind (written ed l)) (rows_given l) at)

  -- and its doubles
  pub doubles_from_rows : answer_of (written ed l) ≡ Ok (subtotals_of (rows_given l 1))
  doubles_from_rows =
      ap (answer_by (written ed l)) (lists-accepted ed l clean)
      ∙ ap (λ (r : List (List ℕ)). Ok (subtotals_of r)) (at 0 one_kind)
