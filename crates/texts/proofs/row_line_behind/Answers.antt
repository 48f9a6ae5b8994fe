use mathlib.Core.Path.{refl}
use Rattle.texts.proofs.Lines.{row-line-behind}
use Rattle.texts.proofs.row_line_behind.Goals as goal

pub returns-in-Ok : goal.returns-in-Ok
returns-in-Ok c =
    let a = c.args in
    row-line-behind a.text.now a.first c.in-Ok.is c.head_of.ensures a.index c.row_line.ensures

pub returns-in-Err : goal.returns-in-Err
returns-in-Err c =
    let a = c.args in
    row-line-behind a.text.now a.first c.in-Err.is c.head_of.ensures a.index refl
