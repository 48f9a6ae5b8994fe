use Rattle.numerals.specs.Numerals.{digits_in}
use Rattle.numerals.proofs.Shapes.{too_many, in_units}
use native.Mathlib.Omega.{arith}
use Rattle.numerals.proofs.read_parts.Goals as goal

pub returns-then-decimals-given : goal.returns-then-decimals-given
returns-then-decimals-given c =
    let a = c.args in
    too_many a.decimals (digits_in a.whole.now) (digits_in a.behind.now) (omega (arith, c.count_digits-given.ensures.0))

pub returns : goal.returns
returns c =
    let a = c.args in
    let n = c.count_digits-given.ensures.0 in
    let whole = digits_in a.whole.now in
    let given = digits_in a.behind.now in
    in_units a.decimals whole given _ _ _ _ c.add_digits.ensures.0 c.add_digits-value.ensures.0 (omega (arith, n)) c.fill.ensures.0
    (omega (arith, n))
    c.unless_large.ensures
