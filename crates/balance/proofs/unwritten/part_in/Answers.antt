use lib.Dec.{lit<}
use Rattle.filing.specs.Lists.{row_of}
use Rattle.wide.proofs.Laws.{is_as}
use Rattle.balance.proofs.Parts.{no_wood}
use Rattle.balance.proofs.unwritten.part_in.Goals as goal

pub cleared_in-requires : goal.cleared_in-requires
cleared_in-requires c = rw c.in-1.is at c.requires

pub used_in-requires : goal.used_in-requires
used_in-requires c = rw c.in-3.is at c.requires

pub returns-in-1 : goal.returns-in-1
returns-in-1 c = rw c.in-1.is c.cleared_in.ensures

pub returns-in-3 : goal.returns-in-3
returns-in-3 c = rw c.in-3.is c.used_in.ensures

pub returns-in_default : goal.returns-in_default
returns-in_default c =
    let r = c.in_default.in_default-own.rest in
    let a = c.args in
    (is_as c.of.ensures (no_wood a.kind (row_of a.kind a.rows.now a.j) r.0.1 r.1), rw c.of.ensures.number (lit< tt))
