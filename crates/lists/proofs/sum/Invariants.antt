use Prim.Native.Nat.{◌*◌, ◌≤◌}
use mathlib.Core.Path.{◌≡◌}
use lib.ListN.{length, take}
use Rattle.filing.specs.Lists.{total}
use Rattle.lists.proofs.sum.Given as goal

abbrev pub invariant-loop-i : goal.invariant-loop-i
invariant-loop-i l = (l.i ≤ length l.lengths) × (l.all ≤ 4294967295 * l.i) × (l.all ≡ total (take l.i l.lengths))
