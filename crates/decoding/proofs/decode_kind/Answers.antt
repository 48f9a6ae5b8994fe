use Rattle.decoding.proofs.decode_kind.Goals as goal

pub decode_rows-requires : goal.decode_rows-requires
decode_rows-requires c = rw c.in-1.is at c.requires

pub decode_rows-requires-in-2 : goal.decode_rows-requires-in-2
decode_rows-requires-in-2 c = rw c.in-2.is at c.requires

pub decode_rows-requires-in-3 : goal.decode_rows-requires-in-3
decode_rows-requires-in-3 c = rw c.in-3.is at c.requires

pub decode_rows-requires-in-4 : goal.decode_rows-requires-in-4
decode_rows-requires-in-4 c = rw c.in-4.is at c.requires

pub decode_rows-requires-in-5 : goal.decode_rows-requires-in-5
decode_rows-requires-in-5 c = rw c.in-5.is at c.requires

pub decode_rows-requires-in-6 : goal.decode_rows-requires-in-6
decode_rows-requires-in-6 c = rw c.in-6.is at c.requires

pub decode_rows-requires-in-7 : goal.decode_rows-requires-in-7
decode_rows-requires-in-7 c = rw c.in-7.is at c.requires

pub decode_rows-requires-in-8 : goal.decode_rows-requires-in-8
decode_rows-requires-in-8 c = rw c.in-8.is at c.requires

pub returns-in-1 : goal.returns-in-1
returns-in-1 c = rw c.in-1.is c.decode_rows.ensures

pub returns-in-2 : goal.returns-in-2
returns-in-2 c = rw c.in-2.is c.decode_rows-in-2.ensures

pub returns-in-3 : goal.returns-in-3
returns-in-3 c = rw c.in-3.is c.decode_rows-in-3.ensures

pub returns-in-4 : goal.returns-in-4
returns-in-4 c = rw c.in-4.is c.decode_rows-in-4.ensures

pub returns-in-5 : goal.returns-in-5
returns-in-5 c = rw c.in-5.is c.decode_rows-in-5.ensures

pub returns-in-6 : goal.returns-in-6
returns-in-6 c = rw c.in-6.is c.decode_rows-in-6.ensures

pub returns-in-7 : goal.returns-in-7
returns-in-7 c = rw c.in-7.is c.decode_rows-in-7.ensures

pub returns-in-8 : goal.returns-in-8
returns-in-8 c = rw c.in-8.is c.decode_rows-in-8.ensures
