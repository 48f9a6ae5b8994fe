use Rattle.cells.proofs.Splits.{Left}
use Rattle.cells.proofs.end_of.Given as goal

-- Byte by byte, until the separator or the end. Assumes nothing.
abbrev pub invariant-loop-k : goal.invariant-loop-k
invariant-loop-k l = Left l.sep l.text l.at l.k
