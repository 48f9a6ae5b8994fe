use Rattle.form.specs.Block.{low_behind}
use mathlib.Core.Path.{refl}
use Rattle.form.proofs.Tests.{on}
use borrow.Author.Tests.{lt-ltb, le-ltb}
use Rattle.sequence.proofs.low_behind.Goals as goal

pub returns-then-b-bytes : goal.returns-then-b-bytes
unfolding low_behind
returns-then-b-bytes c =
    on (lt-ltb _ _ c.if-b-bytes.true) (rw (c.byte_at.ensures.0, c.byte_at-then-b-bytes.ensures.0) refl)

pub returns : goal.returns
unfolding low_behind
returns c = simp (le-ltb _ _ c.if-b-bytes.false)
