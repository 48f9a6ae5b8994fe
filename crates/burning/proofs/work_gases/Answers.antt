use Rattle.burning.specs.Gases.{gases_of}
use Rattle.burning.proofs.work_gases.Goals as goal

pub returns : goal.returns
unfolding gases_of
returns c =
    λ i. record { ch4 = c.gas_of_carbon.ensures i; co = c.gas_of_carbon-2.ensures i; n2o = c.gas_of_nitrogen.ensures i; nox = c.gas_of_nitrogen-2.ensures i }
