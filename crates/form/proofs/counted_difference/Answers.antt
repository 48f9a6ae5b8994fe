use mathlib.Core.Path.{sym}
use native.Mathlib.Omega.{arith}
use Rattle.form.proofs.Periods.{thinner_none, plain}
use Rattle.form.proofs.counted_difference.Goals as goal

pub returns-then-before-after : goal.returns-then-before-after
returns-then-before-after c = (sym (thinner_none _ _ c.if-before-after.true), omega arith)

pub returns-else-before-after : goal.returns-else-before-after
returns-else-before-after c = (sym (plain _ _ c.if-before-after.false), omega arith)
