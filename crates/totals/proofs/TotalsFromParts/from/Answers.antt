use Rattle.totals.specs.Sums.{row_totals}
use Rattle.totals.proofs.TotalsFromParts.from.Goals as goal

pub returns : goal.returns
unfolding row_totals
returns c = λ i. record { cleared = c.into.ensures i; onsite = c.into-2.ensures i; offsite = c.into-3.ensures i; decay = c.into-4.ensures i; thinner = c.into-5.ensures i }
