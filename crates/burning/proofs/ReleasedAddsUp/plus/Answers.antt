use Rattle.burning.specs.Released.{plus}
use Rattle.burning.proofs.ReleasedAddsUp.plus.Goals as goal

pub returns : goal.returns
unfolding plus
returns c = λ i. record { carbon = c.plus.ensures i; ch4 = c.plus-2.ensures i; co = c.plus-3.ensures i; n2o = c.plus-4.ensures i; nox = c.plus-5.ensures i }
