use Rattle.form.specs.Layout.{layout}
use Rattle.form.proofs.Fields.{limiting, Looking}
use Rattle.records.proofs.above_fields.Given as goal

abbrev pub invariant-loop-i : goal.invariant-loop-i
invariant-loop-i l = Looking (limiting l.bytes l.at) (layout l.kind) l.above l.k l.i
