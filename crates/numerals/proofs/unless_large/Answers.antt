use Rattle.numerals.proofs.Capped.{is_large, is_units}
use Rattle.numerals.proofs.unless_large.Goals as goal

-- Above the largest, or not. Assumes nothing.
pub returns-then-n-gt4294967295 : goal.returns-then-n-gt4294967295
returns-then-n-gt4294967295 c = is_large _ c.if-n-gt4294967295.true

pub returns : goal.returns
returns c = is_units _ c.if-n-gt4294967295.false
