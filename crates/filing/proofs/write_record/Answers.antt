use Rattle.filing.proofs.write_record.Goals as goal

pub write_fields-requires : goal.write_fields-requires
write_fields-requires c = rw c.in-1.is at c.requires

pub write_fields-requires-in-2 : goal.write_fields-requires-in-2
write_fields-requires-in-2 c = rw c.in-2.is at c.requires

pub write_fields-requires-in-3 : goal.write_fields-requires-in-3
write_fields-requires-in-3 c = rw c.in-3.is at c.requires

pub write_fields-requires-in-4 : goal.write_fields-requires-in-4
write_fields-requires-in-4 c = rw c.in-4.is at c.requires

pub write_fields-requires-in-5 : goal.write_fields-requires-in-5
write_fields-requires-in-5 c = rw c.in-5.is at c.requires

pub write_fields-requires-in-6 : goal.write_fields-requires-in-6
write_fields-requires-in-6 c = rw c.in-6.is at c.requires

pub write_fields-requires-in-7 : goal.write_fields-requires-in-7
write_fields-requires-in-7 c = rw c.in-7.is at c.requires

pub write_fields-requires-in-8 : goal.write_fields-requires-in-8
write_fields-requires-in-8 c = rw c.in-8.is at c.requires

pub returns-in-1 : goal.returns-in-1
returns-in-1 c = rw c.in-1.is c.write_fields.ensures

pub returns-in-2 : goal.returns-in-2
returns-in-2 c = rw c.in-2.is c.write_fields-in-2.ensures

pub returns-in-3 : goal.returns-in-3
returns-in-3 c = rw c.in-3.is c.write_fields-in-3.ensures

pub returns-in-4 : goal.returns-in-4
returns-in-4 c = rw c.in-4.is c.write_fields-in-4.ensures

pub returns-in-5 : goal.returns-in-5
returns-in-5 c = rw c.in-5.is c.write_fields-in-5.ensures

pub returns-in-6 : goal.returns-in-6
returns-in-6 c = rw c.in-6.is c.write_fields-in-6.ensures

pub returns-in-7 : goal.returns-in-7
returns-in-7 c = rw c.in-7.is c.write_fields-in-7.ensures

pub returns-in-8 : goal.returns-in-8
returns-in-8 c = rw c.in-8.is c.write_fields-in-8.ensures
