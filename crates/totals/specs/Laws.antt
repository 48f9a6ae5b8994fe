-- The laws that the masses and the five sums keep as things that are added up (trait Mass, trait AddsUp). Assumes nothing.
--     amounts       the mass of a number has that number
--     totals_none, totals_both, totals_fit    how large sums are: of no rows, of two together, and that a row more has room
use Rattle.std.specs.Prelude.{◌≡◌, ℕ, ◌+◌, ◌*◌, ◌^◌, ◌≤◌}
use Rattle.std.proofs.Common.{arith}
use Rattle.wide.specs.Numbers.{value, words_of}
use Rattle.wide.proofs.Laws.{value_words}
use Rattle.totals.specs.Sums.{no_totals, plus_totals, TotalsMost}
use Rattle.totals.specs.declared.Totals.{Totals}

pub amounts : (n : ℕ) → value (words_of n) ≡ n
amounts n = (value_words n).number

pub totals_none : TotalsMost 0 no_totals
totals_none = let z = amounts 0 in record { cleared = omega arith; onsite = omega arith; offsite = omega arith; decay = omega arith; thinner = omega arith }

pub totals_both : (m n : ℕ) (a b : Totals) → TotalsMost m a → TotalsMost n b → TotalsMost (m + n) (plus_totals a b)
unfolding plus_totals
totals_both m n a b p q = record {
  cleared = omega (arith, amounts (value a.cleared.0 + value b.cleared.0));
  onsite = omega (arith, amounts (value a.onsite.0 + value b.onsite.0));
  offsite = omega (arith, amounts (value a.offsite.0 + value b.offsite.0));
  decay = omega (arith, amounts (value a.decay.0 + value b.decay.0));
  thinner = omega (arith, amounts (value a.thinner.0 + value b.thinner.0));
}

most_le : {m n : ℕ} {t : Totals} → TotalsMost m t → m ≤ n → TotalsMost n t
most_le p l = record { cleared = omega (arith, p.cleared); onsite = omega (arith, p.onsite); offsite = omega (arith, p.offsite); decay = omega (arith, p.decay); thinner = omega (arith, p.thinner) }

pub totals_fit : (m : ℕ) (a b : Totals) → m ≤ 32 * 2 ^ 64 → TotalsMost m a → TotalsMost (2 ^ 64) b → (TotalsMost (2 ^ 110) a) × (TotalsMost (2 ^ 110) b)
totals_fit m a b l p q = (most_le p (omega (arith, l)), most_le q (omega arith))
