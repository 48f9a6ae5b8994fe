use mathlib.Core.Path.{ap₂}
use Prim.Native.Nat.{ℕ}
use lib.IntN.{pos, ◌-ℤ◌}
use Rattle.wide.proofs.SignLaws.{holds_as, signed}
use Rattle.soils.proofs.gained.Goals as goal

pub returns : goal.returns
returns c =
    let h = signed (holds_as c.difference.ensures (ap₂ (λ (n t : ℕ). pos n -ℤ pos t) c.of.ensures.number c.of-2.ensures.number)) in
    λ i. record { 0 = h i }
