use mathlib.Core.Path.{◌∙◌, sym}
use Rattle.areas.specs.Areas.{soils_in}
use Rattle.areas.proofs.Turns.{passed_over, taken_up, left-even}
use native.Mathlib.Omega.{arith}
use Rattle.areas.proofs.lower.Goals as goal

pub returns-then-best-soil : goal.returns-then-best-soil
returns-then-best-soil c =
    let a = c.args in
    passed_over (soils_in a.rows.now) a.best a.j c.number_of-soil.ensures.0 c.if-best-soil.true

pub returns-then-is_uneven : goal.returns-then-is_uneven
returns-then-is_uneven c =
    let a = c.args in
    taken_up (soils_in a.rows.now) a.best a.j c.number_of-soil.ensures.0 (omega (arith, c.if-best-soil.false)) (sym c.if-is_uneven.true ∙ c.is_uneven.ensures)

pub returns : goal.returns
returns c =
    let a = c.args in
    left-even (soils_in a.rows.now) a.best a.j c.number_of-soil.ensures.0 (sym c.if-is_uneven.false ∙ c.is_uneven.ensures)
