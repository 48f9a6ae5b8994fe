use Rattle.wide.proofs.SignLaws.{signed}
use Rattle.soils.proofs.yearly.Goals as goal

pub returns : goal.returns
returns c = λ i. record { 0 = signed c.rounded_signed.ensures i }
