use Rattle.decimal.proofs.DigitLaws.{put_pair}
use native.Mathlib.Omega.{arith}
use Rattle.decimal.proofs.put_two.Goals as goal

pub returns : goal.returns
returns c = put_pair _ _ _ _ _ (omega arith) (omega arith) (omega arith)
