use lib.ListN.{drop}
use Rattle.form.specs.Layout.{layout}
use Rattle.filing.proofs.Fields.{Encoding}
use Rattle.filing.proofs.write_fields.Given as goal

abbrev pub invariant-loop-i : goal.invariant-loop-i
invariant-loop-i l = Encoding (layout l.kind) (drop l.from l.rows) l.initial.out l.to l.out l.k l.i
