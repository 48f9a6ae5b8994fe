use Rattle.std.proofs.Common.{ℕ, ◌*◌, ◌∙◌, ap₂}
use Rattle.totals.specs.Masses.{carbon}
use Rattle.savannas.specs.Savannas.{carbon_part}
use Rattle.savannas.proofs.carbon_at.Goals as goal

pub returns : goal.returns
unfolding carbon_part
returns c = c.wide_carbon_of.ensures ∙ ap₂ (λ (x y : ℕ). carbon (x * y)) c.burned_at.ensures.0 c.share_at.ensures.0
