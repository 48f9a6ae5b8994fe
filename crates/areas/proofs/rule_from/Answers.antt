use mathlib.Core.Path.{sym, ◌∙◌}
use Rattle.form.specs.Sums.{type_of, lowest_uneven}
use Rattle.form.proofs.Search.{first_at}
use Rattle.areas.specs.Areas.{soils_in}
use Rattle.areas.proofs.Sums.{soils-count}
use native.Mathlib.Omega.{arith}
use Rattle.areas.proofs.rule_from.Goals as goal

pub overflow_add-result : goal.overflow_add-result
overflow_add-result c =
    let r = c.args.rows.now in
    let h = (first_at (λ i. lowest_uneven (soils_in r) (type_of (soils_in r) i)) (sym c.first_uneven.ensures ∙ c.in-Some.is)).0 in
    record { fits = omega (arith, c.requires, h, soils-count r) }
