use Rattle.std.proofs.Common.{rules}
use Rattle.wide.specs.Numbers.{value}
use Rattle.wide.proofs.of.Goals as goal

-- A word is the number itself. Assumes nothing.
pub returns : goal.returns
unfolding value
returns c = record { number = search rules; word = search rules }
