use mathlib.Core.Path.{sym}
use native.Mathlib.Omega.{arith}
use Rattle.decimal.proofs.DigitLaws.{written-more}
use Rattle.phrases.proofs.LineTexts.{as_text}
use Rattle.unpacked.proofs.Numbers.{nothing}
use Rattle.unpacked.proofs.Lines.{no_lines, some_lines}
use Rattle.unpacked.proofs.InTurn.{rows-room}
use Rattle.unpacked.proofs.print.put_kind.Goals as goal

pub returns-then-n-eq0 : goal.returns-then-n-eq0
returns-then-n-eq0 c =
    (as_text (sym (no_lines c.args.kind c.args.rows.now c.args.n c.requires.3 c.if-n-eq0.true)) (nothing _ _), omega arith)

pub returns : goal.returns
returns c = (
  as_text (sym (some_lines c.args.kind c.args.rows.now c.args.n c.requires.3 c.if-n-eq0.false)) (written-more c.put_note-next.ensures.0 c.put_rows.ensures.0),
  omega (arith, rows-room c.args.kind c.args.n c.requires.2, c.put_note-next.ensures.1, c.put_rows.ensures.1),
)
