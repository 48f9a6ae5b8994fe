use mathlib.Core.Path.{sym, ap, ap₂, subst, ◌∙◌}
use Rattle.form.specs.Layout.{savanna, row_at}
use Rattle.wide.specs.Numbers.{value}
use Rattle.wide.proofs.Laws.{value_words}
use Rattle.totals.specs.declared.Carbon.{Carbon}
use Rattle.burning.specs.Released.{Thousandths, released_of}
use Rattle.savannas.specs.Savannas.{carbon_part}
use Rattle.savannas.proofs.Limits.{carbon-below, ratios, ratios_there}
use native.Mathlib.Omega.{arith}
use Rattle.savannas.proofs.row_at.Goals as goal

pub release-requires : goal.release-requires
release-requires c =
    let r = row_at savanna c.args.bytes.now c.args.at in (
      omega (arith, ap (λ (x : Carbon). value x.0) c.carbon_at.ensures, (value_words (carbon_part r)).number, carbon-below r c.requires.at_value),
      subst Thousandths (sym (c.ratios_at.ensures ∙ ratios_there c.args.bytes.now c.args.at)) (ratios r c.requires.at_value),
    )

pub returns : goal.returns
returns c =
    c.release.ensures ∙ ap₂ released_of c.carbon_at.ensures (c.ratios_at.ensures ∙ ratios_there c.args.bytes.now c.args.at)
