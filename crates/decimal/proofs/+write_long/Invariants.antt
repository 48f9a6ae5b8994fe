-- the number falls with each call
use Rattle.wide.specs.Numbers.{value}
use Rattle.decimal.proofs.+write_long.Given as goal

abbrev pub decreases-write_long : goal.decreases-write_long
decreases-write_long l = value l.x
