use Rattle.texts.proofs.Lines.{row-line-long, row-line-none, row-line-first}
use Rattle.texts.proofs.line_of_row.Goals as goal

-- Too long, or by the first line that counts. Assumes nothing.
pub returns-then-text-gt131072 : goal.returns-then-text-gt131072
returns-then-text-gt131072 c = let a = c.args in row-line-long a.text.now a.index c.if-text-gt131072.true

pub returns-in-Some : goal.returns-in-Some
returns-in-Some c =
    let a = c.args in
    row-line-first a.text.now c.if-text-gt131072.false c.first_line.result c.first_line.ensures.0 a.index c.in-Some.is c.row_line_behind.ensures

pub returns-in-None : goal.returns-in-None
returns-in-None c =
    let a = c.args in
    row-line-none a.text.now c.if-text-gt131072.false c.first_line.result c.first_line.ensures.0 a.index c.in-None.is
