use Prim.Native.Nat.{ℕ, ◌*◌}
use mathlib.Core.Path.{ap, ◌∙◌}
use Rattle.totals.specs.Masses.{dry_matter}
use Rattle.matter.proofs.burn.Goals as goal

pub returns : goal.returns
returns c =
    let a = c.args in
    let e = c.mass_of-2.ensures ∙ ap (λ (x : ℕ). dry_matter (a.biomass.0 * a.fraction * x)) c.left_by.ensures.0 in
    λ i. record { oxidised = c.mass_of.ensures i; charcoal = e i }
