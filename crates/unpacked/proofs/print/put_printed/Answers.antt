use native.Mathlib.Omega.{arith}
use Rattle.decimal.proofs.DigitLaws.{written-more}
use Rattle.phrases.proofs.LineTexts.{as_text}
use Rattle.unpacked.proofs.Numbers.{power_some, whole-fits, as_printed}
use Rattle.unpacked.proofs.print.put_printed.Goals as goal

pub nonzero_div-whole : goal.nonzero_div-whole
nonzero_div-whole c = let h = power_some _ _ c.power.ensures in omega arith

pub write-next-requires : goal.write-next-requires
write-next-requires c =
    omega (arith, c.requires.1, whole-fits c.args.d c.args.n _ _ c.power.ensures c.of.ensures.number c.requires.0 (omega arith))

pub put_pointed-requires : goal.put_pointed-requires
put_pointed-requires c =
    let h = whole-fits c.args.d c.args.n _ _ c.power.ensures c.of.ensures.number c.requires.0 (omega arith) in
    (c.requires.0, omega (arith, c.requires.1, h, c.write-next.ensures.place, c.write-next.auto.out))

pub returns : goal.returns
returns c =
    let h = whole-fits c.args.d c.args.n _ _ c.power.ensures c.of.ensures.number c.requires.0 (omega arith) in (
      as_text (as_printed c.args.d c.args.n _ _ c.power.ensures c.of.ensures.number) (written-more c.write-next.ensures c.put_pointed.ensures),
      omega (arith, h, c.write-next.ensures.place, c.put_pointed.ensures.place),
    )
