use Rattle.std.proofs.Common.{◌+◌, ◌*◌, ◌/◌, ◌%◌, ◌^◌, refl, arith}
use Rattle.wide.proofs.Laws.{Step, step, divide_value}
use Rattle.wide.proofs.divide.Goals as goal

pub returns : goal.returns
returns c = divide_value c.args.x c.args.d _ _ c.requires refl refl (omega (arith, (let one' : Step c.args.x.hi (c.args.x.lo / 2 ^ 32) c.args.d = step c.args.x.hi (c.args.x.lo / 2 ^ 32) c.args.d c.requires (omega arith) (omega arith) in one'), (let two' : Step (c.args.x.hi % c.args.d * 2 ^ 32 + c.args.x.lo / 2 ^ 32) (c.args.x.lo % 2 ^ 32) c.args.d = step _ (c.args.x.lo % 2 ^ 32) c.args.d c.requires (omega arith) (omega arith) in two')))
