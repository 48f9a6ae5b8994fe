use Rattle.decimal.proofs.DigitLaws.{written-more}
use Rattle.phrases.proofs.Room.{as_refused, ended-length, refused-length}
use native.Mathlib.Omega.{arith}
use Rattle.phrases.proofs.put_refused.Goals as goal

pub put-a-requires : goal.put-a-requires
put-a-requires c =
    omega (arith, c.requires, refused-length c.args.number c.args.place)

pub put_value-b-requires : goal.put_value-b-requires
put_value-b-requires c =
    (c.plain.ensures.form, omega (arith, c.requires, refused-length c.args.number c.args.place, c.put-a.auto.out, c.put-a.ensures.place, ended-length 32 c.plain.ensures.number))

pub put_value-requires : goal.put_value-requires
put_value-requires c =
    let e = ended-length 32 c.plain.ensures.number in
    (c.plain-2.ensures.form, omega (arith, c.requires, refused-length c.args.number c.args.place, c.put-a.auto.out, c.put-a.ensures.place, c.put_value-b.auto.out, c.put_value-b.ensures.place, ended-length 10 c.plain-2.ensures.number))

pub returns : goal.returns
returns c =
    as_refused c.args.number c.args.place _ _ c.plain.ensures.number c.plain-2.ensures.number
    (written-more (written-more c.put-a.ensures c.put_value-b.ensures) c.put_value.ensures)
