use Prim.Native.Nat.{ℕ, ◌≤◌}
use mathlib.Core.Path.{◌≡◌}
use Rattle.form.specs.Layout.{layout, above_limit}
use Rattle.filing.specs.Lists.{row_of}
use Rattle.form.specs.First.{first}
use Rattle.std.specs.Prelude.{None}
use Rattle.lists.proofs.first_above_in.Given as goal

abbrev pub invariant-loop-j : goal.invariant-loop-j
invariant-loop-j l = (l.j ≤ l.n) × (first (λ (i : ℕ). above_limit (layout l.kind) (row_of l.kind l.rows i)) l.j ≡ None)
