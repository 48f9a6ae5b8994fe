use mathlib.Core.Path.{ap}
use Prim.Native.Nat.{ℕ}
use lib.ListN.{length}
use Rattle.decimal.specs.Digits.{decimal}
use Rattle.wide.proofs.Laws.{value_low}
use native.Mathlib.Omega.{arith}
use Rattle.decimal.proofs.write.Goals as goal

-- One word, or more. Assumes nothing.
pub write_word-requires : goal.write_word-requires
write_word-requires c = let x = c.args.x in omega (arith, ap (λ (n : ℕ). length (decimal n)) (value_low x c.if-x-eq0.true))

pub returns-then-x-eq0 : goal.returns-then-x-eq0
returns-then-x-eq0 c = let x = c.args.x in rw (value_low x c.if-x-eq0.true) c.write_word.ensures
