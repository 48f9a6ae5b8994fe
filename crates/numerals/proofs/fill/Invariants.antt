use Prim.Native.Nat.{◌*◌, ◌^◌, ◌≤◌}
use mathlib.Core.Path.{◌≡◌}
use Rattle.numerals.specs.Numerals.{capped}
use Rattle.numerals.proofs.fill.Given as goal

-- Ten times, once for each. Assumes nothing.
abbrev pub invariant-loop-k : goal.invariant-loop-k
invariant-loop-k l = (l.k ≤ l.missing) × (l.value ≤ 4294967296) × (l.value ≡ capped (l.n * 10 ^ l.k))
