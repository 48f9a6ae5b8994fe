use Prim.Native.Nat.{◌≤◌}
use mathlib.Core.Path.{◌≡◌}
use Rattle.std.specs.Prelude.{None}
use Rattle.form.specs.First.{first}
use Rattle.faults.specs.Faults.{stray_byte}
use Rattle.faults.proofs.first_stray.Given as goal

abbrev pub invariant-loop-i : goal.invariant-loop-i
invariant-loop-i l = (l.i ≤ 512) × (first (stray_byte l.bytes l.b) l.i ≡ None)
