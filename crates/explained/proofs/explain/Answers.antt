use Rattle.std.specs.Prelude.{Err}
use mathlib.Core.Path.{sym, ap, ◌∙◌}
use Rattle.standing.proofs.Accepted.{formed}
use Rattle.explained.specs.Explanation.{Accepted}
use Rattle.explained.proofs.Laws.{accepted-explained, refused-explained}
use Rattle.explained.proofs.explain.Goals as goal

pub weigh_rows-requires : goal.weigh_rows-requires
weigh_rows-requires c = formed _ _ (sym c.judge.ensures ∙ c.in-Ok.is)

pub work_matter-requires : goal.work_matter-requires
work_matter-requires c = formed _ _ (sym c.judge.ensures ∙ c.in-Ok.is)

pub returns-in-Ok : goal.returns-in-Ok
returns-in-Ok c =
    (λ i. Accepted (c.weigh_rows.ensures i) (c.work_matter.ensures i)) ∙ sym (accepted-explained c.args.bytes.now (sym c.judge.ensures ∙ c.in-Ok.is))

pub returns-in-Err : goal.returns-in-Err
returns-in-Err c =
    ap Err c.reason_of.ensures ∙ sym (refused-explained c.args.bytes.now (sym c.judge.ensures ∙ c.in-Err.is))
