use Rattle.form.specs.Block.{none_before}
use mathlib.Core.Path.{refl}
use Rattle.form.proofs.Tests.{on}
use borrow.Author.Tests.{lt-ltb, le-ltb}
use Rattle.sequence.proofs.none_before.Goals as goal

pub returns-then-byte_at : goal.returns-then-byte_at
unfolding none_before
returns-then-byte_at c =
    on (lt-ltb _ _ (rw c.byte_at.ensures.0 at c.if-byte_at.true)) (rw c.blocks_below.ensures refl)

pub returns : goal.returns
unfolding none_before
returns c = simp (le-ltb _ _ (rw c.byte_at.ensures.0 at c.if-byte_at.false))
