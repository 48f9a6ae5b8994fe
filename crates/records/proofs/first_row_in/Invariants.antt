use Prim.Native.Nat.{◌+◌, ◌*◌, ◌≤◌}
use mathlib.Core.Path.{◌≡◌}
use Rattle.std.specs.Prelude.{None}
use Rattle.form.specs.First.{first}
use Rattle.records.specs.Steps.{row_test}
use Rattle.records.proofs.first_row_in.Given as goal

abbrev pub invariant-loop-r : goal.invariant-loop-r
invariant-loop-r l = (l.r ≤ l.used) × (first (λ i. row_test l.number l.bytes (12 * l.b + i)) l.r ≡ None)
