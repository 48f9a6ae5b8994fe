use Rattle.wide.specs.Numbers.{value}
use Rattle.wide.proofs.Laws.{below_one}
use Rattle.wide.proofs.is_zero.Goals as goal

pub returns : goal.returns
returns c = cc (below_one (value c.args.a))
