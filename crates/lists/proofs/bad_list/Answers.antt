use native.Mathlib.Omega.{arith}
use Rattle.form.proofs.Fields.{kind-numbers}
use Rattle.lists.specs.Rules.{bad_list}
use Rattle.lists.proofs.bad_list.Goals as goal

pub nonzero_rem-result : goal.nonzero_rem-result
nonzero_rem-result c =
    omega (arith, c.numbers.ensures.0, kind-numbers c.args.kind c.requires.0 c.requires.1)

pub returns : goal.returns
unfolding bad_list
returns c = rw (c.count-rows.ensures.0, c.numbers.ensures.0)
