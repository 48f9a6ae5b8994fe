use Rattle.form.specs.Layout.{layout}
use Rattle.filing.proofs.Fields.{Decoding}
use Rattle.decoding.proofs.decode_row.Given as goal

abbrev pub invariant-loop-i : goal.invariant-loop-i
invariant-loop-i l = Decoding (layout l.kind) l.bytes l.at l.initial.room l.to l.room l.k l.i
