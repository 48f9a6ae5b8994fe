use Rattle.form.specs.Layout.{layout}
use Rattle.form.proofs.Fields.{Looking}
use Rattle.faults.specs.Faults.{zero_from}
use Rattle.faults.proofs.due_in_record.Given as goal

abbrev pub invariant-loop-i : goal.invariant-loop-i
invariant-loop-i here = Looking (λ a l. zero_from a l here.k) (layout here.kind) here.due here.at here.i
