use Prim.Native.Nat.{ℕ, ◌*◌}
use mathlib.Core.Path.{◌≡◌, ap}
use lib.IntN.{pos, ◌-ℤ◌}
use Rattle.wide.specs.Numbers.{value}
use Rattle.wide.specs.Signs.{amount}
use Rattle.wide.proofs.SignLaws.{holds_as, signed}
use native.Mathlib.Omega.{arith}
use Rattle.units.proofs.net_carbon.Goals as goal

pub returns : goal.returns
returns c =
    let e : value c.times.result ≡ 100 * value c.args.e.0 = omega arith in
    let h = signed (holds_as c.minus.ensures (ap (λ (n : ℕ). pos n -ℤ amount c.args.o.0) e)) in
    λ i. record { 0 = h i }
