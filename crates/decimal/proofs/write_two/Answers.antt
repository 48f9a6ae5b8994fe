use Rattle.decimal.proofs.DigitLaws.{digit_length, pair_length, decimal_pair, put_digit}
use native.Mathlib.Omega.{arith}
use Rattle.decimal.proofs.write_two.Goals as goal

pub bounds-out-at : goal.bounds-out-at
bounds-out-at c = omega (arith, digit_length c.args.d (omega arith))

pub returns-then-d-lt10 : goal.returns-then-d-lt10
returns-then-d-lt10 c = put_digit _ _ _ _ (omega arith) (omega arith)

pub put_two-requires : goal.put_two-requires
put_two-requires c = (omega arith, omega (arith, pair_length c.args.d (omega arith) (omega arith)))

pub returns : goal.returns
returns c = rw (decimal_pair c.args.d (omega arith) (omega arith)) c.put_two.ensures
