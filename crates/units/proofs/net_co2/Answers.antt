use mathlib.Core.Path.{ap, ◌∙◌}
use lib.IntN.{ℤ, pos, *ℤ_comm}
use Rattle.wide.specs.Signs.{amount, nearest_z}
use Rattle.wide.proofs.SignLaws.{holds_as, signed}
use Rattle.units.proofs.net_co2.Goals as goal

pub returns : goal.returns
returns c =
    let e = ap (λ (z : ℤ). nearest_z z 3000000) (c.times_signed.ensures.number ∙ *ℤ_comm (amount c.args.p.0) (pos 11)) in
    let h = signed (holds_as c.rounded_signed.ensures e) in
    λ i. record { 0 = h i }
