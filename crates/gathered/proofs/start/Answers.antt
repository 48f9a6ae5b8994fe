use Rattle.gathered.specs.Gathered.{accepted_of, refused_of, tally_of}
use Rattle.gathered.proofs.start.Goals as goal

pub returns : goal.returns
unfolding tally_of accepted_of refused_of
returns c = λ i. record { accepted = 0; refused = 0; ledger = c.no_returns.ensures i }
