use mathlib.Core.Path.{◌∙◌}
use Rattle.heads.proofs.HeadLaws.{separator_by}
use Rattle.heads.proofs.separator_in.Goals as goal

pub returns : goal.returns
returns c =
    let l = c.args.line.now in
    c.separator_at.ensures
    ∙ separator_by l c.front-word.result c.behind_edition-behind.result c.front-at.result c.front-word.ensures.2 c.behind_edition-behind.ensures.1 c.front-at.ensures.2
