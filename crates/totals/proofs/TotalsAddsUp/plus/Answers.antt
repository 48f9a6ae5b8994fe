use Rattle.totals.specs.Sums.{plus_totals}
use Rattle.totals.proofs.TotalsAddsUp.plus.Goals as goal

pub returns : goal.returns
unfolding plus_totals
returns c = λ i. record { cleared = c.plus.ensures i; onsite = c.plus-2.ensures i; offsite = c.plus-3.ensures i; decay = c.plus-4.ensures i; thinner = c.plus-5.ensures i }
