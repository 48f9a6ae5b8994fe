-- A return that clears no less than another has no subtotal that is lower, exactly or as a double (specs/Cleared).
use Rattle.std.specs.Prelude.{ℕ, ◌≤◌, ◌≡◌, List, length, Ok}
use Rattle.std.proofs.Common.{◌∙◌}
use Rattle.std.proofs.Math.Path.{ap}
use Rattle.std.specs.Float.{binary64}
use Rattle.std.specs.Float.Ieee.{of_bits}
use Rattle.form.specs.Bytes.{number}
use Rattle.form.specs.Verdict.{rows, verdict_of}
use Rattle.form.specs.declared.Counts.{Counts}
use Rattle.totals.specs.Sums.{totals_of}
use Rattle.ledger.specs.Ledger.{entered}
use Rattle.ledger.specs.Derived.{conversion_of}
use Rattle.worksheets.specs.Sheets.{by_kind, figures_of}
use Rattle.worksheets.specs.Answers.{outcome_by}
use Rattle.doubles.specs.Subtotals.{subtotals_of}
use Rattle.nearness.specs.NoLower.{NoLower}
use Rattle.nearness.proofs.Demand as demand
use Rattle.nearness.proofs.Cleared.{AllRaised, sums_raised}
use Rattle.charted.specs.Subtotal.{bits_told}
use Rattle.steps.proofs.Doubles.{by_code-holds}
use Rattle.promises.specs.Demand1.{figures_say}
use Rattle.promises.specs.FromC.{c_subtotal_read}
use Rattle.promises.specs.Cleared.{MoreCleared, ExactNoLower, DoublesNoLower, raised, as_said}

module _ (s t : List ℕ) (c d : Counts) (first : verdict_of s ≡ Ok c) (second : verdict_of t ≡ Ok d) (more : MoreCleared s t) where
  sums : AllRaised (rows 1 s) (rows 1 t)
  sums = sums_raised s t c d first second more.as_many (λ i l. raised (more.row_by_row i l))

  pub exact_no_lower : ExactNoLower s t (figures_of (by_kind s)) (figures_of (by_kind t))
  unfolding conversion_of entered totals_of
  exact_no_lower = record {
    onsite = as_said sums.onsite.exact;
    offsite = as_said sums.offsite.exact;
    decay = as_said sums.decay.exact;
    first-answer = figures_say s ∙ ap (outcome_by s) first;
    second-answer = figures_say t ∙ ap (outcome_by t) second;
  }

  pub doubles_no_lower : DoublesNoLower s t (subtotals_of (rows 1 s)) (subtotals_of (rows 1 t))
  doubles_no_lower = record {
    onsite = sums.onsite.drawn;
    offsite = sums.offsite.drawn;
    decay = sums.decay.drawn;
    first-answer = demand.answered s c first;
    second-answer = demand.answered t d second;
  }

  -- from C: the eight bytes that `niloferq_subtotal` leaves for each of the two returns, by one code, read as the doubles that they are
  pub c_double_no_lower : (code : ℕ) (room other : List ℕ) → code ≤ 2 → 8 ≤ length room → 8 ≤ length other
      → NoLower (of_bits binary64 (number 8 (bits_told s code room) 0)) (of_bits binary64 (number 8 (bits_told t code other) 0))
  c_double_no_lower code room other h long wide =
      rw (c_subtotal_read s c first code room h long, c_subtotal_read t d second code other h wide)
      (by_code-holds NoLower code sums.onsite.drawn sums.offsite.drawn sums.decay.drawn)
