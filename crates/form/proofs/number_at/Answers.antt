use mathlib.Core.Path.{◌≡◌}
use Rattle.form.specs.Bytes.{number}
use native.Mathlib.Omega.{arith}
use Rattle.form.proofs.number_at.Goals as goal

pub returns : goal.returns
unfolding number
returns c = let e : c.args.w ≡ 1 = omega arith in rw e (omega (arith, c.byte_at.ensures))
