use mathlib.Core.Path.{◌≡◌}
use Rattle.form.specs.Bytes.{little_endian}
use native.Mathlib.Omega.{arith}
use Rattle.filing.proofs.put_number.Goals as goal

pub returns : goal.returns
unfolding little_endian
returns c = let e : c.args.w ≡ 1 = omega arith in rw e
