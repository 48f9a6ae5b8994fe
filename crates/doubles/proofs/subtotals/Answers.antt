use mathlib.Core.Path.{sym, ap, ◌∙◌}
use Rattle.std.proofs.lemmas.Result.{err_from_is_err_and}
use Rattle.doubles.specs.Subtotals.{answer_by}
use Rattle.std.specs.Prelude.{Ok}
use Rattle.doubles.proofs.subtotals.Goals as goal

pub returns-in_err-counts : goal.returns-in_err-counts
returns-in_err-counts c =
    let p = err_from_is_err_and c.from_residual.result c.from_residual.ensures.1 in
    rw (p.1, p.2) (sym (ap (answer_by c.args.bytes.now) (sym c.judge.ensures ∙ c.in_err-counts.was)))

pub subtotals_judged-requires : goal.subtotals_judged-requires
subtotals_judged-requires c = sym c.judge.ensures ∙ c.in_ok-counts.was

pub returns : goal.returns
returns c =
    let s = c.args.bytes.now in
    ap Ok c.subtotals_judged.ensures ∙ sym (ap (answer_by s) (sym c.judge.ensures ∙ c.in_ok-counts.was))
