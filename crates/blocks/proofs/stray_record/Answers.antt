use Rattle.form.specs.Block.{stray_record}
use borrow.Author.Tests.{lt-ltb, le-ltb}
use Rattle.form.proofs.Tests.{taken, left}
use Rattle.blocks.proofs.stray_record.Goals as goal

pub returns-then-r-byte_at : goal.returns-then-r-byte_at
unfolding stray_record
returns-then-r-byte_at c = taken _ (rw c.byte_at.ensures.0 at (lt-ltb _ _ c.if-r-byte_at.true)) (cc)

pub returns-else-r-byte_at : goal.returns-else-r-byte_at
unfolding stray_record
returns-else-r-byte_at c = left _ (rw c.byte_at.ensures.0 at (le-ltb _ _ c.if-r-byte_at.false)) c.stray_in.ensures
