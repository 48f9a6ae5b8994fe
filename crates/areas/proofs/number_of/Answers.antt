use Prim.Native.Nat.{◌+◌, ◌*◌}
use Rattle.areas.proofs.Sums.{number_of}
use native.Mathlib.Omega.{arith}
use Rattle.areas.proofs.number_of.Goals as goal

pub returns : goal.returns
returns c = let a = c.args in (number_of a.rows.now a.j a.i c.requires.1, omega (arith, c.shared_slice_known-1.given (9 * a.j + a.i)))
