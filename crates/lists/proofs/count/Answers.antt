use native.Mathlib.Omega.{arith}
use Rattle.form.proofs.Fields.{kind-numbers}
use Rattle.lists.proofs.count.Goals as goal

pub nonzero_div-result : goal.nonzero_div-result
nonzero_div-result c = omega (arith, c.numbers.ensures.0, kind-numbers c.args.kind c.requires.0 c.requires.1)
