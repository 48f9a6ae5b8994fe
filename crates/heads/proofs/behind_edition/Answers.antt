use mathlib.Core.Path.{sym, ◌∙◌}
use native.Mathlib.Omega.{arith}
use Rattle.heads.proofs.HeadLaws.{behind-word, behind_quoted, behind_none}
use Rattle.heads.proofs.behind_edition.Goals as goal

pub returns-then-word_at : goal.returns-then-word_at
returns-then-word_at c =
    (omega (arith, c.word_at.ensures.1 c.if-word_at.true), behind-word c.args.line.now c.args.at (sym c.if-word_at.true ∙ c.word_at.ensures.0))

pub returns-then-quoted_at : goal.returns-then-quoted_at
returns-then-quoted_at c =
    let none = sym c.if-word_at.false ∙ c.word_at.ensures.0 in (
      omega (arith, c.quoted_at.ensures.1 c.if-quoted_at.true),
      behind_quoted c.args.line.now c.args.at none (sym c.if-quoted_at.true ∙ c.quoted_at.ensures.0),
    )

pub returns : goal.returns
returns c =
    let none = sym c.if-word_at.false ∙ c.word_at.ensures.0 in
    (omega arith, behind_none c.args.line.now c.args.at none (sym c.if-quoted_at.false ∙ c.quoted_at.ensures.0))
