use Prim.Native.Nat.{◌≤◌, ◌*◌}
use mathlib.Core.Path.{◌≡◌}
use Rattle.form.specs.Verdict.{count_below}
use Rattle.judge.proofs.rows_of.Given as goal

abbrev pub invariant-loop-b : goal.invariant-loop-b
invariant-loop-b l = (l.b ≤ l.n) × (l.rows ≤ 255 * l.b) × (l.rows ≡ count_below l.kind l.bytes l.b)
