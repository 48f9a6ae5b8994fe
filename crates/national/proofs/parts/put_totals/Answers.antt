use native.Mathlib.Omega.{arith}
use Rattle.decimal.proofs.DigitLaws.{written-more}
use Rattle.national.proofs.parts.put_totals.Goals as goal

pub returns : goal.returns
returns c =
    (written-more c.put_columns-next.ensures.0 c.put_matter.ensures.0, omega (arith, c.put_columns-next.ensures.1, c.put_matter.ensures.1))
