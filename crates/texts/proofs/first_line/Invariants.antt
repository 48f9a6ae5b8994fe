use Prim.Native.Nat.{◌-◌}
use lib.ListN.{length}
use Rattle.texts.proofs.Lines.{Looking}
use Rattle.texts.proofs.first_line.Given as goal

-- Line by line, until one is not passed over. Assumes nothing.
abbrev pub invariant-loop-from : goal.invariant-loop-from
invariant-loop-from l = Looking l.text l.from l.number

abbrev pub decreases-loop-from : goal.decreases-loop-from
decreases-loop-from l = length l.text - l.from
