use Prim.Native.Nat.{◌≤◌}
use mathlib.Core.Path.{◌≡◌}
use lib.ListN.{take}
use Rattle.form.specs.Sums.{scattered_in}
use Rattle.form.specs.Verdict.{rows}
use Rattle.sums.proofs.count_scattered.Given as goal

abbrev pub invariant-loop-i : goal.invariant-loop-i
invariant-loop-i l = (l.i ≤ l.n) × (l.scattered ≤ l.i) × (l.scattered ≡ scattered_in (take l.i (rows 2 l.bytes)))
