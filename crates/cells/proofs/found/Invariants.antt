use Prim.Native.Nat.{◌-◌}
use lib.ListN.{length}
use Rattle.cells.proofs.FieldLaws.{Going}
use Rattle.cells.proofs.found.Given as goal

-- Field by field, with the number of the last that is not empty. Assumes nothing.
abbrev pub invariant-loop-at : goal.invariant-loop-at
invariant-loop-at l = Going l.sep l.line l.at l.seen l.last

abbrev pub decreases-loop-at : goal.decreases-loop-at
decreases-loop-at l = length l.line - l.at
