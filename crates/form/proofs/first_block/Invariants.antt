use Prim.Native.Nat.{◌*◌, ◌≤◌}
use mathlib.Core.Path.{◌≡◌}
use Rattle.form.specs.Standing.{first_block}
use Rattle.form.proofs.first_block.Given as goal

abbrev pub invariant-loop-k : goal.invariant-loop-k
invariant-loop-k l = (1 ≤ l.k) × (l.k ≤ l.kind) × (l.first ≤ 3 * l.k) × (l.first ≡ first_block l.k l.c)
