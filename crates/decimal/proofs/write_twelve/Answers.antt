use mathlib.Core.Path.{refl}
use Rattle.decimal.proofs.DigitLaws.{length-after, write_after}
use native.Mathlib.Omega.{arith}
use Rattle.decimal.proofs.write_twelve.Goals as goal

pub write_four-next-requires : goal.write_four-next-requires
write_four-next-requires c = let d = c.args.d in (omega arith, omega (arith, length-after 8 d refl refl (omega arith)))

pub put_eight-requires : goal.put_eight-requires
put_eight-requires c = let d = c.args.d in (omega arith, omega (arith, length-after 8 d refl refl (omega arith)))

pub returns : goal.returns
returns c = write_after 8 _ refl refl (omega arith) c.write_four-next.ensures c.put_eight.ensures
