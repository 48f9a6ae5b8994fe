use Rattle.form.proofs.EachKind.{KindsAre}
use Rattle.lists.proofs.Scan.{Scanning}
use Rattle.lists.proofs.first_broken.Given as goal

abbrev pub invariant-loop-k : goal.invariant-loop-k
invariant-loop-k l = KindsAre × Scanning l.number l.edition l.lengths l.area l.from l.start l.k
