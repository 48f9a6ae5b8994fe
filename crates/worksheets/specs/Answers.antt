-- "a definition gives this paper's number and values for each of its cases": what an answer says, and what it is to say.
use Rattle.std.specs.Prelude.{ℕ, List, Ok, Err}
use Rattle.form.specs.Verdict.{verdict_of}
use Rattle.form.specs.Refusals.{Refused, Verdict}
use Rattle.worksheets.specs.Answer.{Answer}
use Rattle.worksheets.specs.Sheets.{by_kind, figures_of}
use Rattle.worksheets.specs.declared.sheets.Figures as declared

-- all figures, or a refusal number and its place
pub data Outcome : Type 0 where
  worked : declared.Figures → Outcome
  refusal : ℕ → ℕ → Outcome

abbrev pub outcome_by : List ℕ → Verdict → Outcome
outcome_by s (Ok c) = worked (figures_of (by_kind s))
outcome_by s (Err r) = refusal r.number r.place

-- what is to be answered of any bytes
abbrev pub outcome_of : List ℕ → Outcome
outcome_of s = outcome_by s (verdict_of s)

-- an answer's number and values, case by case
abbrev pub said : Answer → Outcome
said (Ok f) = worked f
said (Err r) = refusal r.number r.place

-- the other way: the one answer that says so
abbrev pub answered : Outcome → Answer
answered (worked f) = Ok f
answered (refusal n p) = Refused n p
