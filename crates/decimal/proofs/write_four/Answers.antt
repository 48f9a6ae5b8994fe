use mathlib.Core.Path.{refl}
use Rattle.decimal.proofs.DigitLaws.{length-after, write_after}
use native.Mathlib.Omega.{arith}
use Rattle.decimal.proofs.write_four.Goals as goal

pub write_two-next-requires : goal.write_two-next-requires
write_two-next-requires c = let d = c.args.d in (omega arith, omega (arith, length-after 2 d refl refl (omega arith)))

pub put_two-requires : goal.put_two-requires
put_two-requires c = let d = c.args.d in (omega arith, omega (arith, length-after 2 d refl refl (omega arith)))

pub returns : goal.returns
returns c = write_after 2 _ refl refl (omega arith) c.write_two-next.ensures c.put_two.ensures
