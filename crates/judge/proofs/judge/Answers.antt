use mathlib.Core.Path.{◌≡◌, sym, ap, ◌∙◌}
use Rattle.std.proofs.lemmas.Result.{err_from_is_err_and}
use Rattle.std.specs.Prelude.{Ok}
use Rattle.form.specs.Refusals.{Clean}
use Rattle.form.specs.Ruling.{ruling}
use Rattle.form.specs.Records.{filed}
use Rattle.form.specs.Sums.{sum_rules}
use Rattle.form.specs.Verdict.{form_rules, verdict_by, verdict_of}
use Rattle.form.proofs.Order.{ruled_before, kept-before}
use Rattle.judge.proofs.judge.Goals as goal

pub returns-in_err-rule_form : goal.returns-in_err-rule_form
unfolding verdict_of
returns-in_err-rule_form c =
    let s = c.args.bytes.now in
    let p = err_from_is_err_and c.from_residual.result c.from_residual.ensures.1 in
    rw (p.1, p.2) (sym (ap (verdict_by s) (ruled_before (form_rules s) (sum_rules (filed s)) (sym c.rule_form.ensures ∙ c.in_err-rule_form.was))))

pub returns-in_err-rule_sums : goal.returns-in_err-rule_sums
unfolding verdict_of
returns-in_err-rule_sums c =
    let s = c.args.bytes.now in
    let kept : ruling (form_rules s) ≡ Clean = sym c.rule_form.ensures ∙ c.in_ok-rule_form.was in
    let p = err_from_is_err_and c.from_residual-in_err-rule_sums.result c.from_residual-in_err-rule_sums.ensures.1 in
    rw (p.1, p.2) (sym (ap (verdict_by s) (kept-before (form_rules s) (sum_rules (filed s)) kept ∙ sym c.rule_sums.ensures ∙ c.in_err-rule_sums.was)))

pub returns : goal.returns
unfolding verdict_of
returns c =
    let s = c.args.bytes.now in
    let kept : ruling (form_rules s) ≡ Clean = sym c.rule_form.ensures ∙ c.in_ok-rule_form.was in
    ap Ok c.count_rows-counts.ensures
    ∙ sym (ap (verdict_by s) (kept-before (form_rules s) (sum_rules (filed s)) kept ∙ sym c.rule_sums.ensures ∙ c.in_ok-rule_sums.was))
