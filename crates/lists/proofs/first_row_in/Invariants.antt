use Prim.Native.Nat.{ℕ, ◌≤◌}
use mathlib.Core.Path.{◌≡◌}
use Rattle.form.specs.First.{first}
use Rattle.form.specs.Records.{test_numbered}
use Rattle.std.specs.Prelude.{None}
use Rattle.filing.specs.Lists.{row_of}
use Rattle.lists.proofs.first_row_in.Given as goal

abbrev pub invariant-loop-j : goal.invariant-loop-j
invariant-loop-j l = (l.j ≤ l.n) × (first (λ (i : ℕ). test_numbered l.number l.edition l.kind (row_of l.kind l.rows i)) l.j ≡ None)
