use Rattle.lists.specs.Rules.{not_allowed}
use Rattle.lists.proofs.not_allowed.Goals as goal

pub returns : goal.returns
unfolding not_allowed
returns c = rw c.last_kind.ensures
