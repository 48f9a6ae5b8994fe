use Prim.Native.Nat.{◌*◌, ◌≤◌}
use mathlib.Core.Path.{◌≡◌}
use Rattle.std.specs.Prelude.{None}
use Rattle.form.specs.First.{first}
use Rattle.records.specs.Steps.{record_test}
use Rattle.records.proofs.first_broken.Given as goal

abbrev pub invariant-loop-b : goal.invariant-loop-b
invariant-loop-b l = (l.b ≤ l.n) × (first (record_test l.number l.bytes) (12 * l.b) ≡ None)
