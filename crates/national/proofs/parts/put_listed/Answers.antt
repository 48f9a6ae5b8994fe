use native.Mathlib.Omega.{arith}
use Rattle.decimal.proofs.DigitLaws.{written-more}
use Rattle.phrases.proofs.Room.{ended-length}
use Rattle.national.proofs.Pieces.{as_listed, listed-length}
use Rattle.national.proofs.parts.put_listed.Goals as goal

pub put-a-requires : goal.put-a-requires
put-a-requires c =
    omega (arith, c.requires, listed-length c.args.position c.args.number c.args.place)

pub put_value-b-requires : goal.put_value-b-requires
put_value-b-requires c =
    let n = listed-length c.args.position c.args.number c.args.place in
    (c.plain.ensures.form, omega (arith, c.requires, n, c.put-a.auto.out, c.put-a.ensures.place, ended-length 32 c.plain.ensures.number))

pub put_refused-requires : goal.put_refused-requires
put_refused-requires c =
    let n = listed-length c.args.position c.args.number c.args.place in
    let e = ended-length 32 c.plain.ensures.number in
    omega (arith, c.requires, n, e, c.put-a.auto.out, c.put-a.ensures.place, c.put_value-b.auto.out, c.put_value-b.ensures.place)

pub returns : goal.returns
returns c =
    let a = c.args in
    as_listed a.position a.number a.place _ c.plain.ensures.number (written-more (written-more c.put-a.ensures c.put_value-b.ensures) c.put_refused.ensures)
