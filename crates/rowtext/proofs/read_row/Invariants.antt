use Rattle.rowtext.proofs.Reading.{Reading}
use Rattle.rowtext.proofs.read_row.Given as goal

-- Field by field. Assumes nothing.
abbrev pub invariant-loop-i : goal.invariant-loop-i
invariant-loop-i l = Reading l.sep l.kind l.line l.initial.room l.at l.room l.from l.unit l.i
