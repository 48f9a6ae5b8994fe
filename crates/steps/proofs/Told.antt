-- A verdict, what a write answers, the figures and the doubles are one ruling's alone; what the sheets answer says what they are to answer. Assumes nothing.
use Prim.Native.Nat.{ℕ}
use mathlib.Core.Path.{◌≡◌, refl}
use mathlib.Core.List.{List}
use native.Mathlib.Omega.{arith}
use Rattle.worksheets.specs.declared.sheets.Figures.{Figures}
use Rattle.form.specs.Verdict.{verdict_by}
use Rattle.doubles.specs.Answers.{Answer}
use Rattle.form.specs.Refusals.{Clean, Refused, Ruling, Verdict}
use Rattle.rows.specs.Answers.{Written}
use Rattle.std.specs.Prelude.{Ok, Err}
use Rattle.worksheets.specs.Answer as sheets
use Rattle.filing.specs.Lists.{Lists}
use Rattle.rows.specs.Writing.{written_by}
use Rattle.worksheets.specs.Answers.{Outcome, worked, refusal, outcome_by, said, answered}
use Rattle.doubles.specs.Subtotals.{answer_by}
use Rattle.form.proofs.Order.{same_ruling}

in_verdict : Verdict → Ruling
in_verdict (Ok c) = Clean
in_verdict (Err r) = Err r

in_written : Written → Ruling
in_written (Ok n) = Clean
in_written (Err r) = Err r

in_outcome : Outcome → Ruling
in_outcome (worked v) = Clean
in_outcome (refusal n p) = Refused n p

in_answer : Answer → Ruling
in_answer (Ok d) = Clean
in_answer (Err r) = Err r

module _ (s : List ℕ) where
  pub verdict_told : (u v : Ruling) → verdict_by s u ≡ verdict_by s v → u ≡ v
  unfolding in_verdict
  verdict_told = same_ruling (verdict_by s) in_verdict refl (λ n p. refl)

  pub figures_told : (u v : Ruling) → outcome_by s (verdict_by s u) ≡ outcome_by s (verdict_by s v) → u ≡ v
  unfolding in_outcome
  figures_told = same_ruling (λ (u : Ruling). outcome_by s (verdict_by s u)) in_outcome refl (λ n p. refl)

  pub doubles_told : (u v : Ruling) → answer_by s (verdict_by s u) ≡ answer_by s (verdict_by s v) → u ≡ v
  unfolding in_answer
  doubles_told = same_ruling (λ (u : Ruling). answer_by s (verdict_by s u)) in_answer refl (λ n p. refl)

pub written_told : (ed : ℕ) (l : Lists) (u v : Ruling) → written_by ed l u ≡ written_by ed l v → u ≡ v
unfolding in_written
written_told ed l = same_ruling (written_by ed l) in_written refl (λ n p. refl)

-- figures are no refusal
pub worked_not_refused : (v : Figures) (n p : ℕ) → worked v ≡ refusal n p → ⊥
worked_not_refused v n p e = let z : ◌≡◌ {A = ℕ} 0 1 = cc in omega arith

-- what the sheets are to answer, and what an answer says, each from the other
pub said_back : (o : Outcome) → said (answered o) ≡ o
said_back (worked f) = refl
said_back (refusal n p) = refl

pub answered_back : (a : sheets.Answer) → answered (said a) ≡ a
answered_back (Ok f) = refl
answered_back (Err r) = refl
