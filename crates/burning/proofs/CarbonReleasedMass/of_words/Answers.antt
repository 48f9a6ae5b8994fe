use Rattle.wide.proofs.Laws.{words}
use Rattle.burning.proofs.CarbonReleasedMass.of_words.Goals as goal

pub returns : goal.returns
returns c = λ n e i. record { 0 = words e i }
