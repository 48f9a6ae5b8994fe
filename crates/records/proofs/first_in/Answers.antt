use borrow.Author.Tests.{ne_eqb}
use Rattle.records.proofs.first_in.Goals as goal

pub returns-then-number-eq5 : goal.returns-then-number-eq5
returns-then-number-eq5 c = rw c.if-number-eq5.true c.first_id_in.ensures

pub returns : goal.returns
returns c = rw (ne_eqb _ 5 c.if-number-eq5.false) c.first_row_in.ensures
