use Rattle.wide.proofs.SignLaws.{signed}
use Rattle.units.proofs.carbon_in.Goals as goal

pub returns : goal.returns
returns c = λ i. record { 0 = signed c.times_signed.ensures i }
