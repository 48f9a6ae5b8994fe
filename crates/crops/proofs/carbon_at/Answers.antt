use Rattle.std.proofs.Common.{ℕ, ◌*◌, ◌∙◌, ap₂}
use Rattle.totals.specs.Masses.{carbon}
use Rattle.crops.specs.Crops.{residue_carbon}
use Rattle.crops.proofs.carbon_at.Goals as goal

pub returns : goal.returns
unfolding residue_carbon
returns c = c.wide_carbon_of.ensures ∙ ap₂ (λ (x y : ℕ). carbon (x * y)) c.residue_at.ensures.0 c.share_at.ensures.0
