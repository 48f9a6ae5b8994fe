use Rattle.filing.proofs.Parts.{list-row, list_none}
use Rattle.filing.proofs.write_place.Goals as goal

pub returns-then-j-m : goal.returns-then-j-m
returns-then-j-m c =
    let a = c.args in
    rw (list-row a.kind a.rows.now a.j (rw c.requires.0 at c.if-j-m.true))
    (rw c.numbers.ensures.0 at c.write_record.ensures)

pub returns-else-j-m : goal.returns-else-j-m
returns-else-j-m c =
    let a = c.args in
    rw (list_none a.kind a.rows.now a.j (rw c.requires.0 at c.if-j-m.false)) c.clear.ensures
