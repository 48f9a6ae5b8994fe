use Prim.Native.Nat.{◌-◌}
use lib.ListN.{length}
use Rattle.national.proofs.Turns.{Underway}
use Rattle.national.proofs.run_file.Given as goal

abbrev pub invariant-loop-size : goal.invariant-loop-size
invariant-loop-size l = Underway l.bytes l.initial.out l.run.tally l.run.at l.from l.out

abbrev pub decreases-loop-size : goal.decreases-loop-size
decreases-loop-size l = length l.bytes - l.from
