use Prim.Native.Nat.{◌≤◌}
use mathlib.Core.Path.{◌≡◌}
use mathlib.Core.Bool.{◌||◌}
use lib.ListN.{drop}
use Rattle.form.specs.Layout.{layout, above_limit}
use Rattle.filing.specs.Lists.{row_of}
use Rattle.lists.proofs.above_fields.Given as goal

abbrev pub invariant-loop-i : goal.invariant-loop-i
invariant-loop-i l = (l.i ≤ l.n) × ((l.above || above_limit (drop l.i (layout l.kind)) (drop l.i (row_of l.kind l.rows l.j))) ≡ above_limit (layout l.kind) (row_of l.kind l.rows l.j))
