use mathlib.Core.Path.{refl}
use Rattle.decimal.proofs.DigitLaws.{length-after, write_after}
use native.Mathlib.Omega.{arith}
use Rattle.decimal.proofs.write_eight.Goals as goal

pub write_four-next-requires : goal.write_four-next-requires
write_four-next-requires c = let d = c.args.d in (omega arith, omega (arith, length-after 4 d refl refl (omega arith)))

pub put_four-requires : goal.put_four-requires
put_four-requires c = let d = c.args.d in (omega arith, omega (arith, length-after 4 d refl refl (omega arith)))

pub returns : goal.returns
returns c = write_after 4 _ refl refl (omega arith) c.write_four-next.ensures c.put_four.ensures
