use Rattle.form.proofs.Adding.{entered_none, entered-more, entered_all}
use borrow.Author.Rules.{rules}
use native.Mathlib.Omega.{arith}
use Rattle.form.proofs.check_due.Goals as goal

pub loop-offset-init : goal.loop-offset-init
loop-offset-init c = entered_none _ _

pub loop-offset-preserved : goal.loop-offset-preserved
loop-offset-preserved c = entered-more c.loop-offset.invariant (search rules) c.byte_at-running.ensures.0 c.byte_at-running.ensures.1

pub returns : goal.returns
returns c = entered_all c.loop-offset.invariant (omega arith)
