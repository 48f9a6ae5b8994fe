use Rattle.counted.specs.Counts.{held}
use Rattle.counted.proofs.Rooms.{Handing}
use Rattle.counted.proofs.put_counts.Given as goal

abbrev pub invariant-loop-k : goal.invariant-loop-k
invariant-loop-k l = Handing (held l.c) l.initial.room l.room l.k
