use Rattle.form.proofs.EachKind.{KindsAre}
use Rattle.clashes.proofs.Finding.{Finding}
use Rattle.clashes.proofs.find_row.Given as goal

abbrev pub invariant-loop-k : goal.invariant-loop-k
invariant-loop-k l = KindsAre × Finding l.lengths l.area l.p l.from l.start l.before l.k
