use Rattle.form.specs.Layout.{layout}
use Rattle.reasons.proofs.Above.{Seeking}
use Rattle.reasons.proofs.row_reasons.first_above.Given as goal

abbrev pub invariant-loop-i : goal.invariant-loop-i
invariant-loop-i l = Seeking l.bytes l.at (layout l.kind) l.k l.i
