use Rattle.std.proofs.Common.{arith}
use Rattle.wide.specs.Numbers.{value}
use Rattle.wide.proofs.Laws.{is_as, value_low, value-high, divided}
use Rattle.wide.proofs.rounding.divide_word.Goals as goal

-- One division, or none where the divisor is the larger. Assumes nothing.
pub nonzero_div-x : goal.nonzero_div-x
nonzero_div-x c = omega (arith, c.requires, value_low c.args.d c.if-d-eq0.true)

pub nonzero_rem-x : goal.nonzero_rem-x
nonzero_rem-x c = omega (arith, c.requires, value_low c.args.d c.if-d-eq0.true)

pub returns-then-d-eq0 : goal.returns-then-d-eq0
returns-then-d-eq0 c = rw (value_low c.args.d c.if-d-eq0.true) (c.of-quotient.ensures, c.of-rest.ensures)

pub returns : goal.returns
returns c =
    let a = c.args in
    let e = divided a.x (value a.d) 0 a.x (omega (arith, value-high a.d c.if-d-eq0.false)) (omega arith) in
    (is_as c.of-quotient-2.ensures e.0, is_as c.of-rest-2.ensures e.1)
