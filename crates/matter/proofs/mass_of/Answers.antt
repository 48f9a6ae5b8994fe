use Rattle.std.proofs.Common.{ℕ, ◌*◌, ap, ◌∙◌}
use Rattle.totals.specs.Masses.{dry_matter}
use Rattle.matter.proofs.mass_of.Goals as goal

pub returns : goal.returns
returns c = c.into.ensures ∙ ap dry_matter (c.share_of-2.ensures ∙ ap (λ (x : ℕ). x * c.args.share) c.share_of.ensures)
