use Prim.Native.Nat.{ℕ, ◌*◌}
use mathlib.Core.Path.{◌≡◌, ap}
use Rattle.wide.proofs.Laws.{words, is_as}
use Rattle.wide.specs.Numbers.{value}
use Rattle.wide.specs.Rounding.{nearest}
use native.Mathlib.Omega.{arith}
use Rattle.units.proofs.uptake_co2.Goals as goal

pub returns : goal.returns
returns c = let e : value c.times.result ≡ 11 * value c.args.u.0 = omega arith in let h = words (is_as c.rounded.ensures (ap (λ (n : ℕ). nearest n 30000) e)) in λ i. record { 0 = h i }
