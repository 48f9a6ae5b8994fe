use Rattle.reasons.proofs.Wood.{wood_there}
use Rattle.reasons.proofs.cleared_above.Goals as goal

pub returns : goal.returns
returns c = wood_there c.args.bytes.now _ c.requires c.weigh_wood-wood.ensures
