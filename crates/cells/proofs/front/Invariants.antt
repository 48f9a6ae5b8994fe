use Rattle.cells.proofs.Cleaning.{Front}
use Rattle.cells.proofs.front.Given as goal

-- Byte by byte, until one is no blank. Assumes nothing.
abbrev pub invariant-loop-k : goal.invariant-loop-k
invariant-loop-k l = Front l.sep l.line l.from l.to l.k
