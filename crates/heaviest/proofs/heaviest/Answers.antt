use mathlib.Core.Path.{sym, ap, ◌∙◌}
use Rattle.std.proofs.lemmas.Result.{err_from_is_err_and}
use Rattle.standing.proofs.Accepted.{formed}
use Rattle.heaviest.specs.Heaviest.{named_of, weight_by}
use Rattle.heaviest.proofs.Walk.{by_code}
use Rattle.heaviest.proofs.Answers.{refused-answer, code-answer, named-answer}
use native.Mathlib.Omega.{arith}
use Rattle.heaviest.proofs.heaviest.Goals as goal

pub returns-in_err-counts : goal.returns-in_err-counts
returns-in_err-counts c =
    let p = err_from_is_err_and c.from_residual.result c.from_residual.ensures.1 in
    rw (p.1, p.2) (sym (refused-answer c.args.bytes.now c.args.code (sym c.judge.ensures ∙ c.in_err-counts.was)))

pub returns-then-code-gt2 : goal.returns-then-code-gt2
returns-then-code-gt2 c =
    let a = c.args in
    sym (code-answer a.bytes.now a.code (sym c.judge.ensures ∙ c.in_ok-counts.was) (omega arith))

pub weigh_rows-requires : goal.weigh_rows-requires
weigh_rows-requires c = formed _ _ (sym c.judge.ensures ∙ c.in_ok-counts.was)

pub returns : goal.returns
returns c =
    let a = c.args in
    let s = a.bytes.now in
    c.name_of.ensures
    ∙ ap named_of (c.by_code.ensures ∙ ap (weight_by a.code) c.weigh_rows.ensures ∙ by_code a.code s)
    ∙ sym (named-answer s a.code (sym c.judge.ensures ∙ c.in_ok-counts.was) c.if-code-gt2.false)
