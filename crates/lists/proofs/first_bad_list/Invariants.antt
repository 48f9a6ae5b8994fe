use Prim.Native.Nat.{◌+◌, ◌≤◌}
use mathlib.Core.Path.{◌≡◌}
use lib.ListN.{length}
use Rattle.form.specs.First.{first}
use Rattle.form.specs.Layout.{kinds}
use Rattle.std.specs.Prelude.{None}
use Rattle.lists.specs.Rules.{bad_at}
use Rattle.lists.proofs.first_bad_list.Given as goal

abbrev pub invariant-loop-k : goal.invariant-loop-k
invariant-loop-k l = (l.k ≤ kinds) × (length l.lengths ≡ kinds) × (first (bad_at l.edition l.lengths l.m) (l.k + 1) ≡ None)
