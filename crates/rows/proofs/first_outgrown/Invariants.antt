use Prim.Native.Nat.{◌+◌, ◌*◌, ◌≤◌}
use mathlib.Core.Path.{◌≡◌}
use lib.ListN.{length}
use Rattle.form.specs.First.{first}
use Rattle.form.specs.Layout.{kinds}
use Rattle.std.specs.Prelude.{None}
use Rattle.form.proofs.EachKind.{KindsAre}
use Rattle.rows.specs.Reading.{area_to, outgrown}
use Rattle.rows.proofs.first_outgrown.Given as goal

abbrev pub invariant-loop-k : goal.invariant-loop-k
invariant-loop-k l =
    KindsAre × (l.k ≤ kinds) × (l.need ≡ length (area_to l.bytes l.k)) × (l.need ≤ 512 * l.k) × (first (outgrown l.bytes l.m) (l.k + 1) ≡ None)
