use Rattle.form.specs.Layout.{layout}
use Rattle.clashes.proofs.Told.{Seeking}
use Rattle.clashes.proofs.values.field_above.Given as goal

abbrev pub invariant-loop-i : goal.invariant-loop-i
invariant-loop-i l = Seeking (layout l.row.kind) l.numbers l.i
