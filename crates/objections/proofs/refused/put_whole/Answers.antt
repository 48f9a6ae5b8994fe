use mathlib.Core.Path.{sym, ap, ◌∙◌}
use Rattle.phrases.proofs.LineTexts.{as_text}
use Rattle.objections.specs.Objections.{text_by}
use Rattle.objections.proofs.Rulings.{of_records}
use Rattle.objections.proofs.refused.put_whole.Goals as goal

pub put_refusal-requires : goal.put_refusal-requires
put_refusal-requires c =
    let a = c.args in record { good = c.requires.good; area_value = of_records a.text.now a.edition a.lengths.now a.area.now (sym c.rule_records.ensures ∙ c.in-Err.is); at_in_bounds = c.requires.at_in_bounds }

pub returns-in-Err : goal.returns-in-Err
returns-in-Err c =
    let a = c.args in
    let told = of_records a.text.now a.edition a.lengths.now a.area.now (sym c.rule_records.ensures ∙ c.in-Err.is) in
    (as_text (ap (text_by a.text.now a.edition a.lengths.now a.area.now) (sym told)) c.put_refusal.ensures.0, c.put_refusal.ensures.1)
