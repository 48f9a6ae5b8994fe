use Rattle.cells.proofs.LineLaws.{line-last, line_empty, line-return, line_plain}
use Rattle.cells.proofs.next_line.Goals as goal

pub returns-then-end-text : goal.returns-then-end-text
returns-then-end-text c =
    line-last _ _ _ c.requires c.end_of-end.ensures c.if-end-text.true

pub returns-then-end-at : goal.returns-then-end-at
returns-then-end-at c =
    line_empty _ _ _ c.requires c.end_of-end.ensures c.if-end-text.false c.if-end-at.true

pub returns-then-text-end-eq13 : goal.returns-then-text-end-eq13
returns-then-text-end-eq13 c =
    line-return _ _ _ c.requires c.end_of-end.ensures c.if-end-text.false c.if-end-at.false c.if-text-end-eq13.true

pub returns : goal.returns
returns c =
    line_plain _ _ _ c.requires c.end_of-end.ensures c.if-end-text.false c.if-end-at.false c.if-text-end-eq13.false
