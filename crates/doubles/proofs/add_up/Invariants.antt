use mathlib.Core.Path.{◌≡◌}
use Prim.Native.Nat.{◌≤◌}
use Rattle.form.specs.Verdict.{rows}
use Rattle.doubles.specs.Subtotals.{subtotals_of}
use Rattle.doubles.proofs.Walk.{onward}
use Rattle.doubles.proofs.add_up.Given as goal

abbrev pub invariant-loop-i : goal.invariant-loop-i
invariant-loop-i l = (l.i ≤ l.n) × (onward (rows 1 l.bytes) l.i l.t ≡ subtotals_of (rows 1 l.bytes))
