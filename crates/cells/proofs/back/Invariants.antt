use Rattle.cells.proofs.Cleaning.{Back}
use Rattle.cells.proofs.back.Given as goal

-- From the end on, byte by byte, until one is no blank. Assumes nothing.
abbrev pub invariant-loop-k : goal.invariant-loop-k
invariant-loop-k l = Back l.sep l.line l.from l.to l.k
