use native.Mathlib.Omega.{arith}
use Rattle.decimal.proofs.DigitLaws.{marked-sign, marked-length, written-more}
use Rattle.decimal.proofs.write_signed.Goals as goal

-- The minus sign stands before the digits. Assumes nothing.
pub put_sign-next-requires : goal.put_sign-next-requires
put_sign-next-requires c = omega (arith, marked-length c.args.s c.requires.0)

pub write-requires : goal.write-requires
write-requires c =
    omega (arith, marked-length c.args.s c.requires.0)

pub returns : goal.returns
returns c =
    rw (marked-sign c.args.s c.requires.0) (written-more c.put_sign-next.ensures c.write.ensures)
