use Rattle.numerals.proofs.Capped.{filled}
use borrow.Author.Rules.{rules}
use native.Mathlib.Omega.{arith}
use Rattle.numerals.proofs.fill.Goals as goal

pub loop-k-preserved : goal.loop-k-preserved
loop-k-preserved c =
    (search rules, c.cap-value.ensures.1, filled _ c.loop-k.k _ _ c.loop-k.invariant.2 (omega (arith, c.cap-value.ensures.0)))
