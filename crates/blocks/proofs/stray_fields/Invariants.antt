use Rattle.form.specs.Layout.{layout}
use Rattle.form.proofs.Fields.{straying, Looking}
use Rattle.blocks.proofs.stray_fields.Given as goal

abbrev pub invariant-loop-i : goal.invariant-loop-i
invariant-loop-i l = Looking (straying l.bytes l.at) (layout l.kind) l.stray l.k l.i
