use mathlib.Core.Bool.{false≢true}
use native.Mathlib.Omega.{arith}
use Rattle.heads.proofs.HeadLaws.{short_quoted, quote_first, quote_last, quote_word}
use Rattle.heads.proofs.quoted_at.Goals as goal

pub returns-then-line-at-lt9 : goal.returns-then-line-at-lt9
returns-then-line-at-lt9 c = (short_quoted c.args.line.now c.args.at (omega (arith, c.if-line-at-lt9.true)), λ e. absurd (false≢true e))

pub returns-then-line-at-ne34 : goal.returns-then-line-at-ne34
returns-then-line-at-ne34 c = (quote_first c.args.line.now c.args.at c.if-line-at-ne34.true, λ e. absurd (false≢true e))

pub returns-then-line-at-ne34-2 : goal.returns-then-line-at-ne34-2
returns-then-line-at-ne34-2 c = (quote_last c.args.line.now c.args.at c.if-line-at-ne34-2.true, λ e. absurd (false≢true e))

pub returns : goal.returns
returns c =
    (quote_word c.args.line.now c.args.at c.if-line-at-ne34.false c.if-line-at-ne34-2.false c.word_at.ensures.0, λ r. omega (arith, c.if-line-at-lt9.false))
