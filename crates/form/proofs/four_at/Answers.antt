use Rattle.form.proofs.Numbers.{number_4}
use native.Mathlib.Omega.{arith}
use Rattle.form.proofs.four_at.Goals as goal

pub returns : goal.returns
returns c = let a = c.args in omega (arith, number_4 a.bytes.now a.at)
