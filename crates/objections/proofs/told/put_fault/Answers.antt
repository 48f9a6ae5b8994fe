use Rattle.decimal.proofs.DigitLaws.{written-more}
use native.Mathlib.Omega.{arith}
use Rattle.objections.proofs.told.put_fault.Goals as goal

pub returns : goal.returns
returns c =
    (written-more c.put_fault_line-next.ensures.0 c.put_told.ensures.0, omega (arith, c.put_fault_line-next.ensures.1, c.put_told.ensures.1))
