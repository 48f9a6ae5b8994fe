use mathlib.Core.Bool.{false≢true}
use native.Mathlib.Omega.{arith}
use Rattle.heads.proofs.HeadLaws.{short-word}
use Rattle.heads.proofs.word_at.Goals as goal

pub returns-then-line-at-lt7 : goal.returns-then-line-at-lt7
returns-then-line-at-lt7 c = (short-word c.args.line.now c.args.at (omega (arith, c.if-line-at-lt7.true)), λ e. absurd (false≢true e))
