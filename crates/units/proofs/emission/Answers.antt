use Rattle.wide.proofs.SignLaws.{signed}
use Rattle.units.proofs.emission.Goals as goal

pub returns : goal.returns
returns c = λ i. record { 0 = signed c.negated.ensures i }
