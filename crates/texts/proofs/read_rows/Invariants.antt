use Prim.Native.Nat.{◌-◌}
use lib.ListN.{length}
use Rattle.texts.proofs.Turns.{Going}
use Rattle.texts.proofs.read_rows.Given as goal

-- Line by line, until one is at fault or the text ends. Assumes nothing.
abbrev pub invariant-loop-from : goal.invariant-loop-from
invariant-loop-from l = Going l.text l.head.edition l.head.separator l.at l.n l.initial.lengths l.initial.area l.lengths l.area l.kept l.from l.number

abbrev pub decreases-loop-from : goal.decreases-loop-from
decreases-loop-from l = length l.text - l.from
