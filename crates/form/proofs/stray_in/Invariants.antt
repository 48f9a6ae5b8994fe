use Prim.Native.Nat.{◌≤◌}
use mathlib.Core.Path.{◌≡◌}
use Rattle.form.proofs.Numbers.{bits_of}
use Rattle.form.proofs.stray_in.Given as goal

abbrev pub invariant-loop-i : goal.invariant-loop-i
invariant-loop-i l = (l.i ≤ l.n) × (l.bits ≡ bits_of l.bytes l.at l.i)
