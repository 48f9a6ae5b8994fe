use borrow.Author.Tests.{lt-ltb, le-ltb, le-leb, lt-leb}
use Rattle.faults.specs.Faults.{zero_due}
use Rattle.faults.proofs.zero_due.Goals as goal

pub returns-then-i-lt8 : goal.returns-then-i-lt8
unfolding zero_due
returns-then-i-lt8 c = rw (lt-ltb _ _ c.if-i-lt8.true)

pub returns-then-i-ge488 : goal.returns-then-i-ge488
unfolding zero_due
returns-then-i-ge488 c = rw (le-ltb _ _ c.if-i-lt8.false, le-leb _ _ c.if-i-ge488.true)

pub returns-then-i-byte_at : goal.returns-then-i-byte_at
unfolding zero_due
returns-then-i-byte_at c =
    rw (le-ltb _ _ c.if-i-lt8.false, lt-leb _ _ c.if-i-ge488.false, lt-ltb _ _ (rw c.byte_at.ensures.0 at c.if-i-byte_at.true))
    (rw (← c.byte_at-then-i-byte_at.ensures.0) c.due_in_record.ensures)

pub returns : goal.returns
unfolding zero_due
returns c =
    rw (le-ltb _ _ c.if-i-lt8.false, lt-leb _ _ c.if-i-ge488.false, le-ltb _ _ (rw c.byte_at.ensures.0 at c.if-i-byte_at.false))
