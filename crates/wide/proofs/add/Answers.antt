use Rattle.std.proofs.Common.{arith, rules}
use Rattle.wide.specs.Numbers.{value}
use Rattle.wide.proofs.Laws.{high_sum}
use Rattle.wide.proofs.add.Goals as goal

pub overflow_add-result : goal.overflow_add-result
overflow_add-result c = omega (arith, high_sum _ _ c.requires)

pub overflow_add-result-then-lo-a : goal.overflow_add-result-then-lo-a
overflow_add-result-then-lo-a c = omega (arith, high_sum _ _ c.requires)

pub overflow_add-result-else-lo-a : goal.overflow_add-result-else-lo-a
overflow_add-result-else-lo-a c = omega (arith, high_sum _ _ c.requires)

pub returns-then-lo-a : goal.returns-then-lo-a
unfolding value
returns-then-lo-a c = record { number = search rules; word = search rules }

pub returns-else-lo-a : goal.returns-else-lo-a
unfolding value
returns-else-lo-a c = record { number = search rules; word = search rules }
