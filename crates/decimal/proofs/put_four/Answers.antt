use mathlib.Core.Path.{refl}
use Prim.Native.Nat.{◌/◌}
use Rattle.decimal.proofs.DigitLaws.{padded-length, put_after}
use native.Mathlib.Omega.{arith}
use Rattle.decimal.proofs.put_four.Goals as goal

pub put_two-requires : goal.put_two-requires
put_two-requires c = let d = c.args.d in (omega arith, omega (arith, padded-length 2 (d / 100)))

pub returns : goal.returns
returns c = put_after 2 _ refl refl 2 c.put_two-next.ensures c.put_two.ensures
