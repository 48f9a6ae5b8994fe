use Rattle.form.specs.Block.{kind_falls}
use Prim.Native.Nat.{ℕ}
use mathlib.Core.Path.{ap₂}
use lib.Dec.{ltb}
use Rattle.form.proofs.Tests.{on}
use borrow.Author.Tests.{lt-ltb, le-ltb}
use Rattle.sequence.proofs.kind_falls.Goals as goal

pub returns-then-b-gt0 : goal.returns-then-b-gt0
unfolding kind_falls
returns-then-b-gt0 c = on (lt-ltb _ _ c.if-b-gt0.true) (ap₂ (λ (m n : ℕ). ltb m n) c.byte_at.ensures.0 c.byte_at-then-b-gt0.ensures.0)

pub returns : goal.returns
unfolding kind_falls
returns c = simp (le-ltb _ _ c.if-b-gt0.false)
