use mathlib.Core.Path.{refl, ap}
use Rattle.phrases.specs.Ascii.{codes}
use Rattle.phrases.specs.Lines.{lines_text, spaces}
use Rattle.phrases.proofs.LineTexts.{as_text, one_text}
use Rattle.objections.specs.Objections.{line_lines}
use Rattle.objections.proofs.LineTexts.{nothing_put}
use Rattle.objections.proofs.Rulings.{no_line, line_told}
use native.Mathlib.Omega.{arith}
use borrow.Author.Rules.{rules}
use Rattle.objections.proofs.refused.put_row_line.Goals as goal

-- 12 is of no row; else the row is found, and its line. Assumes nothing.
pub returns-then-number-eq12 : goal.returns-then-number-eq12
returns-then-number-eq12 c =
    let a = c.args in
    (nothing_put a.out.now a.at (line_lines a.text.now a.lengths.now a.number a.place) (no_line a.text.now a.lengths.now a.place c.if-number-eq12.true), omega arith)

pub put_one-requires : goal.put_one-requires
unfolding spaces
put_one-requires c = search rules

pub returns : goal.returns
unfolding spaces
returns c =
    let a = c.args in (
      as_text (ap lines_text (line_told a.text.now a.lengths.now a.place c.if-number-eq12.false c.find_row-row.ensures.index_there c.line_of_row.ensures))
          (as_text (one_text (codes "line") _ refl) c.put_one.ensures.0),
      omega (arith, c.put_one.ensures.1),
    )
