use Prim.Native.Nat.{◌≤◌}
use mathlib.Core.Path.{◌≡◌}
use Rattle.form.specs.Records.{bad_id}
use Rattle.filing.specs.Lists.{filed_list}
use Rattle.form.specs.First.{first}
use Rattle.std.specs.Prelude.{None}
use Rattle.lists.proofs.first_bad_id.Given as goal

abbrev pub invariant-loop-j : goal.invariant-loop-j
invariant-loop-j l = (l.j ≤ l.n) × (first (bad_id (filed_list l.kind l.rows)) l.j ≡ None)
