-- The digits before the last are those of a tenth.
use mathlib.Core.Path.{sym}
use Prim.Native.Nat.{◌-◌, ◌/◌}
use native.Mathlib.Omega.{arith}
use Rattle.decimal.proofs.DigitLaws.{padded-length, written-more}
use Rattle.phrases.proofs.LineTexts.{as_text}
use Rattle.unpacked.proofs.Numbers.{nothing, last_none, last_more}
use Rattle.unpacked.proofs.print.+put_last.Goals as goal

pub returns-then-d-eq0 : goal.returns-then-d-eq0
returns-then-d-eq0 t c = as_text (sym (last_none _ _ c.if-d-eq0.true)) (nothing _ _)

pub put_byte-requires : goal.put_byte-requires
put_byte-requires t c =
    let h = c.if-d-eq0.false in
    omega (arith, c.put_last-next.ensures.place, padded-length (c.args.d - 1) (c.args.n / 10), c.put_last-next.auto.out)

pub returns : goal.returns
returns t c = as_text (sym (last_more _ _ c.if-d-eq0.false)) (written-more c.put_last-next.ensures c.put_byte.ensures)
