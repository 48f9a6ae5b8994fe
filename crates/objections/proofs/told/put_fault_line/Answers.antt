use Prim.Native.Nat.{◌^◌, ◌<◌}
use Rattle.decimal.proofs.DigitLaws.{written-more}
use Rattle.phrases.proofs.Room.{ended-length}
use Rattle.phrases.proofs.LineTexts.{as_text}
use Rattle.objections.proofs.LineTexts.{fault-fits, fault-text, number_fits}
use native.Mathlib.Omega.{arith}
use borrow.Author.Rules.{rules}
use Rattle.objections.proofs.told.put_fault_line.Goals as goal

pub put_value-b-requires : goal.put_value-b-requires
put_value-b-requires c =
    let h : c.args.f.line < 2 ^ 32 = search rules in
    (c.plain.ensures.form, omega (arith, c.requires, c.put-a.ensures.place, c.put-a.auto.out, ended-length 32 c.plain.ensures.number, number_fits c.args.f.line h))

pub put_word-c-requires : goal.put_word-c-requires
put_word-c-requires c =
    let h : c.args.f.line < 2 ^ 32 = search rules in
    omega (
      arith,
      c.requires,
      c.put-a.ensures.place,
      c.put-a.auto.out,
      c.put_value-b.ensures.place,
      c.put_value-b.auto.out,
      ended-length 32 c.plain.ensures.number,
      number_fits c.args.f.line h,
      fault-fits c.number.result,
    )

pub put_byte-requires : goal.put_byte-requires
put_byte-requires c =
    let h : c.args.f.line < 2 ^ 32 = search rules in
    omega (
      arith,
      c.requires,
      c.put-a.ensures.place,
      c.put-a.auto.out,
      c.put_value-b.ensures.place,
      c.put_value-b.auto.out,
      ended-length 32 c.plain.ensures.number,
      number_fits c.args.f.line h,
      c.put_word-c.ensures.place,
      c.put_word-c.auto.out,
      fault-fits c.number.result,
    )

pub returns : goal.returns
returns c =
    let f = c.args.f in
    let h : f.line < 2 ^ 32 = search rules in (
      as_text (fault-text f c.plain.ensures.number c.number.ensures) (written-more (written-more (written-more c.put-a.ensures c.put_value-b.ensures) c.put_word-c.ensures) c.put_byte.ensures),
      omega (
        arith,
        c.put-a.ensures.place,
        c.put_value-b.ensures.place,
        ended-length 32 c.plain.ensures.number,
        number_fits f.line h,
        c.put_word-c.ensures.place,
        fault-fits c.number.result,
        c.put_byte.ensures.place,
      ),
    )
