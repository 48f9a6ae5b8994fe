use Rattle.heaviest.proofs.Walk.{three}
use Rattle.heaviest.proofs.weigh.Goals as goal

pub returns : goal.returns
returns c = three c.heavier.ensures c.heavier-2.ensures c.heavier-3.ensures
