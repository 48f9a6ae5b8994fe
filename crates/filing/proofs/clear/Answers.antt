use mathlib.Core.Path.{refl}
use native.Mathlib.Omega.{arith}
use Rattle.filing.proofs.Stores.{zeros_turn, filling_more, filling_all}
use Rattle.filing.proofs.clear.Goals as goal

pub loop-i-preserved : goal.loop-i-preserved
loop-i-preserved c = filling_more c.loop-i.invariant c.loop-i-test.true refl (omega arith)

pub returns : goal.returns
returns c = rw (zeros_turn 0 c.args.n) at (filling_all c.loop-i.invariant c.loop-i-test.false)
