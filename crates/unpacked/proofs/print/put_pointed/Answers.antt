use mathlib.Core.Path.{sym}
use native.Mathlib.Omega.{arith}
use Rattle.decimal.proofs.DigitLaws.{written-more}
use Rattle.phrases.proofs.LineTexts.{as_text}
use Rattle.unpacked.proofs.Numbers.{nothing, no_decimals, some_decimals, some_length}
use Rattle.unpacked.proofs.print.put_pointed.Goals as goal

pub returns-then-d-eq0 : goal.returns-then-d-eq0
returns-then-d-eq0 c = as_text (sym (no_decimals _ _ c.if-d-eq0.true)) (nothing _ _)

pub put_byte-next-requires : goal.put_byte-next-requires
put_byte-next-requires c =
    omega (arith, c.requires.1, some_length c.args.d c.args.n c.if-d-eq0.false)

pub put_last-requires : goal.put_last-requires
put_last-requires c =
    omega (arith, c.requires.1, some_length c.args.d c.args.n c.if-d-eq0.false, c.put_byte-next.ensures.place, c.put_byte-next.auto.out)

pub returns : goal.returns
returns c =
    as_text (sym (some_decimals _ _ c.if-d-eq0.false)) (written-more c.put_byte-next.ensures c.put_last.ensures)
