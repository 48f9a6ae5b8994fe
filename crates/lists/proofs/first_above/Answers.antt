use Rattle.lists.proofs.first_above.Goals as goal

pub first_above_in-requires : goal.first_above_in-requires
first_above_in-requires c = rw c.in-1.is at c.requires

pub first_above_in-requires-in-2 : goal.first_above_in-requires-in-2
first_above_in-requires-in-2 c = rw c.in-2.is at c.requires

pub first_above_in-requires-in-3 : goal.first_above_in-requires-in-3
first_above_in-requires-in-3 c = rw c.in-3.is at c.requires

pub first_above_in-requires-in-4 : goal.first_above_in-requires-in-4
first_above_in-requires-in-4 c = rw c.in-4.is at c.requires

pub first_above_in-requires-in-5 : goal.first_above_in-requires-in-5
first_above_in-requires-in-5 c = rw c.in-5.is at c.requires

pub first_above_in-requires-in-6 : goal.first_above_in-requires-in-6
first_above_in-requires-in-6 c = rw c.in-6.is at c.requires

pub first_above_in-requires-in-7 : goal.first_above_in-requires-in-7
first_above_in-requires-in-7 c = rw c.in-7.is at c.requires

pub first_above_in-requires-in-8 : goal.first_above_in-requires-in-8
first_above_in-requires-in-8 c = rw c.in-8.is at c.requires

pub returns-in-1 : goal.returns-in-1
returns-in-1 c = rw c.in-1.is c.first_above_in.ensures

pub returns-in-2 : goal.returns-in-2
returns-in-2 c = rw c.in-2.is c.first_above_in-in-2.ensures

pub returns-in-3 : goal.returns-in-3
returns-in-3 c = rw c.in-3.is c.first_above_in-in-3.ensures

pub returns-in-4 : goal.returns-in-4
returns-in-4 c = rw c.in-4.is c.first_above_in-in-4.ensures

pub returns-in-5 : goal.returns-in-5
returns-in-5 c = rw c.in-5.is c.first_above_in-in-5.ensures

pub returns-in-6 : goal.returns-in-6
returns-in-6 c = rw c.in-6.is c.first_above_in-in-6.ensures

pub returns-in-7 : goal.returns-in-7
returns-in-7 c = rw c.in-7.is c.first_above_in-in-7.ensures

pub returns-in-8 : goal.returns-in-8
returns-in-8 c = rw c.in-8.is c.first_above_in-in-8.ensures
