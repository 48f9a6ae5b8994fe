use Prim.Native.Nat.{◌*◌, ◌^◌, ◌≤◌}
use Rattle.form.specs.Layout.{row_from}
use Rattle.soils.specs.Soils.{soil_carbon}
use Rattle.soils.proofs.Limits.{by_two, by_three, FactorsAt, factors_at}
use native.Mathlib.Omega.{arith}
use Rattle.soils.proofs.carbon_at.Goals as goal

pub overflow_mul-tilled-2 : goal.overflow_mul-tilled-2
overflow_mul-tilled-2 c = record { fits = omega (arith, (let tilled' : c.two_at.result * c.two_at-2.result * c.two_at-3.result ≤ 9 * 10 ^ 8 = let w = (let limits' : FactorsAt c.args.bytes.now c.args.at = factors_at c.args.bytes.now c.args.at c.requires.at_value in limits') in by_two _ _ _ (omega (arith, c.two_at.ensures.0, w)) (omega (arith, c.two_at-2.ensures.0, w)) (omega (arith, c.two_at-3.ensures.0, w)) in tilled')) }

pub overflow_mul-result : goal.overflow_mul-result
overflow_mul-result c = record { fits = omega (arith, (let below' : c.two_at.result * c.two_at-2.result * c.two_at-3.result * c.two_at-4.result ≤ 27 * 10 ^ 10 = let w = (let limits' : FactorsAt c.args.bytes.now c.args.at = factors_at c.args.bytes.now c.args.at c.requires.at_value in limits') in by_three _ _ _ _ (omega (arith, c.two_at.ensures.0, w)) (omega (arith, c.two_at-2.ensures.0, w)) (omega (arith, c.two_at-3.ensures.0, w)) (omega (arith, c.two_at-4.ensures.0, w)) in below')) }

pub returns : goal.returns
unfolding soil_carbon row_from
returns c =
    (λ i. c.two_at.ensures.0 i * c.two_at-2.ensures.0 i * c.two_at-3.ensures.0 i * c.two_at-4.ensures.0 i, (let below' : c.two_at.result * c.two_at-2.result * c.two_at-3.result * c.two_at-4.result ≤ 27 * 10 ^ 10 = let w = (let limits' : FactorsAt c.args.bytes.now c.args.at = factors_at c.args.bytes.now c.args.at c.requires.at_value in limits') in by_three _ _ _ _ (omega (arith, c.two_at.ensures.0, w)) (omega (arith, c.two_at-2.ensures.0, w)) (omega (arith, c.two_at-3.ensures.0, w)) (omega (arith, c.two_at-4.ensures.0, w)) in below'))
