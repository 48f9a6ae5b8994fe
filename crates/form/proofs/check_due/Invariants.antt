use Rattle.form.proofs.Adding.{Entered}
use Rattle.form.proofs.check_due.Given as goal

abbrev pub invariant-loop-offset : goal.invariant-loop-offset
invariant-loop-offset l = Entered l.bytes l.b l.running l.total l.offset
