use Prim.Native.Nat.{◌-◌}
use lib.ListN.{length}
use Rattle.texts.proofs.Lines.{Seeking}
use Rattle.texts.proofs.row_line.Given as goal

-- Line by line, with the rows that are to come before it. Assumes nothing.
abbrev pub invariant-loop-from : goal.invariant-loop-from
invariant-loop-from l = Seeking l.text l.sep l.at l.n l.index l.from l.number l.left

abbrev pub decreases-loop-from : goal.decreases-loop-from
decreases-loop-from l = length l.text - l.from
