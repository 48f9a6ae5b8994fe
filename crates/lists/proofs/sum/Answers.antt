use mathlib.Core.Path.{sym}
use Rattle.filing.proofs.Cut.{total_none, total-next}
use borrow.Author.Rules.{rules}
use native.Mathlib.Omega.{arith}
use Rattle.lists.proofs.sum.Goals as goal

pub loop-i-init : goal.loop-i-init
loop-i-init c = (search rules, search rules, sym (total_none c.args.lengths.now))

pub loop-i-preserved : goal.loop-i-preserved
loop-i-preserved c = (search rules, search rules, cc (total-next c.args.lengths.now c.loop-i.i (omega arith)))
