use Rattle.form.proofs.Numbers.{number_2}
use native.Mathlib.Omega.{arith}
use Rattle.form.proofs.two_at.Goals as goal

pub returns : goal.returns
returns c = let a = c.args in omega (arith, number_2 a.bytes.now a.at)
