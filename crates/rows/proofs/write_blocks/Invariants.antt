use Rattle.form.proofs.EachKind.{KindsAre}
use Rattle.rows.proofs.Return.{Storing}
use Rattle.rows.proofs.write_blocks.Given as goal

abbrev pub invariant-loop-k : goal.invariant-loop-k
invariant-loop-k l = KindsAre × Storing l.edition l.n l.lengths l.rows l.initial.room l.room l.from l.start l.k
