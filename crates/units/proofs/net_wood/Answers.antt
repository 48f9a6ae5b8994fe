use Prim.Native.Nat.{ℕ, ◌*◌}
use mathlib.Core.Path.{◌≡◌, ap}
use lib.IntN.{pos, ◌-ℤ◌}
use Rattle.wide.specs.Numbers.{value}
use Rattle.wide.proofs.SignLaws.{holds_as, signed}
use native.Mathlib.Omega.{arith}
use Rattle.units.proofs.net_wood.Goals as goal

pub returns : goal.returns
returns c =
    let e : value c.times.result ≡ 100 * value c.args.k.0 = omega arith in
    let h = signed (holds_as c.difference.ensures (ap (λ (n : ℕ). pos n -ℤ pos (value c.args.l.0)) e)) in
    λ i. record { 0 = h i }
