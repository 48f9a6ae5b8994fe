use mathlib.Core.Path.{refl}
use Prim.Native.Nat.{◌/◌}
use Rattle.decimal.proofs.DigitLaws.{padded-length, put_after}
use native.Mathlib.Omega.{arith}
use Rattle.decimal.proofs.put_eight.Goals as goal

pub put_four-requires : goal.put_four-requires
put_four-requires c = let d = c.args.d in (omega arith, omega (arith, padded-length 4 (d / 10000)))

pub returns : goal.returns
returns c = put_after 4 _ refl refl 4 c.put_four-next.ensures c.put_four.ensures
