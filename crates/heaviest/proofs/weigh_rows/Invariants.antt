use Prim.Native.Nat.{◌≤◌}
use mathlib.Core.Path.{◌≡◌}
use lib.ListN.{take}
use Rattle.form.specs.Verdict.{rows}
use Rattle.heaviest.specs.Heaviest.{heaviest_rows}
use Rattle.heaviest.proofs.weigh_rows.Given as goal

abbrev pub invariant-loop-i : goal.invariant-loop-i
invariant-loop-i l = (l.i ≤ l.n) × (l.best ≡ heaviest_rows (take l.i (rows 1 l.bytes)))
