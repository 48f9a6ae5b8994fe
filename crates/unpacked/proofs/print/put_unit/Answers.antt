use native.Mathlib.Omega.{arith}
use Rattle.phrases.proofs.LineTexts.{as_text}
use Rattle.unpacked.proofs.Numbers.{unit-trees, unit-land}
use Rattle.unpacked.proofs.print.put_unit.Goals as goal

pub returns-then-code-eq1 : goal.returns-then-code-eq1
returns-then-code-eq1 c =
    (as_text (unit-trees _ c.if-code-eq1.true) c.put.ensures, omega (arith, c.put.ensures.place))

pub returns : goal.returns
returns c =
    (as_text (unit-land _ c.if-code-eq1.false) c.put-2.ensures, omega (arith, c.put-2.ensures.place))
