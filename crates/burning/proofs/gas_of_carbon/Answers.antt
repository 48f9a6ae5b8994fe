use Prim.Native.Nat.{ℕ, ◌*◌, ◌^◌}
use mathlib.Core.Path.{ap, ◌∙◌}
use native.Mathlib.Nat.{mul_comm}
use Rattle.wide.specs.Numbers.{value}
use Rattle.wide.specs.Rounding.{nearest}
use Rattle.wide.proofs.Laws.{words, is_as}
use Rattle.burning.proofs.gas_of_carbon.Goals as goal

pub returns : goal.returns
returns c =
    let e = words (is_as c.rounded.ensures (ap (λ (x : ℕ). nearest x (3 * 10 ^ 12 * c.args.finer)) (c.times.ensures.number ∙ mul_comm (value c.args.c.0) c.args.thirds))) in
    λ i. record { 0 = e i }
