use mathlib.Core.Path.{sym, ap, ◌∙◌}
use Rattle.phrases.proofs.LineTexts.{as_text}
use Rattle.objections.specs.Objections.{text_by}
use Rattle.objections.proofs.Rulings.{packed_text, of_sums}
use native.Mathlib.Omega.{arith}
use Rattle.objections.proofs.refused.put_each.Goals as goal

pub put_refusal-requires : goal.put_refusal-requires
put_refusal-requires c =
    let a = c.args in record { good = c.requires.good; area_value = of_sums a.text.now a.edition a.lengths.now a.area.now c.requires.area_value (sym c.rule_lists.ensures ∙ c.in-Err.is); at_in_bounds = c.requires.at_in_bounds }

pub returns-in-Err : goal.returns-in-Err
returns-in-Err c =
    let a = c.args in
    let told = of_sums a.text.now a.edition a.lengths.now a.area.now c.requires.area_value (sym c.rule_lists.ensures ∙ c.in-Err.is) in
    (as_text (ap (text_by a.text.now a.edition a.lengths.now a.area.now) (sym told)) c.put_refusal.ensures.0, c.put_refusal.ensures.1)

pub returns-in-Ok : goal.returns-in-Ok
returns-in-Ok c =
    let a = c.args in
    let told = of_sums a.text.now a.edition a.lengths.now a.area.now c.requires.area_value (sym c.rule_lists.ensures ∙ c.in-Ok.is) in
    let text = packed_text a.text.now a.edition a.lengths.now a.area.now c.requires.good in (
      as_text (text ∙ ap (text_by a.text.now a.edition a.lengths.now a.area.now) (sym told)) c.put_packed.ensures.0,
      omega (arith, c.put_packed.ensures.1),
    )
