use Rattle.matter.specs.Matter.{plus_matter}
use Rattle.matter.proofs.several.MatterAddsUp.plus.Goals as goal

pub returns : goal.returns
unfolding plus_matter
returns c = λ i. record { onsite = c.plus.ensures i; offsite = c.plus-2.ensures i; unburned = c.plus-3.ensures i }
