use Rattle.form.specs.Layout.{kinds}
use Rattle.form.proofs.EachKind.{beyond}
use Rattle.form.proofs.Fields.{no_kind}
use Rattle.records.proofs.above_at.Goals as goal

pub returns-in-1 : goal.returns-in-1
returns-in-1 c = rw c.in-1.is c.above_fields.ensures

pub returns-in-2 : goal.returns-in-2
returns-in-2 c = rw c.in-2.is c.above_fields-in-2.ensures

pub returns-in-3 : goal.returns-in-3
returns-in-3 c = rw c.in-3.is c.above_fields-in-3.ensures

pub returns-in-4 : goal.returns-in-4
returns-in-4 c = rw c.in-4.is c.above_fields-in-4.ensures

pub returns-in-5 : goal.returns-in-5
returns-in-5 c = rw c.in-5.is c.above_fields-in-5.ensures

pub returns-in-6 : goal.returns-in-6
returns-in-6 c = rw c.in-6.is c.above_fields-in-6.ensures

pub returns-in-7 : goal.returns-in-7
returns-in-7 c = rw c.in-7.is c.above_fields-in-7.ensures

pub returns-in-8 : goal.returns-in-8
returns-in-8 c = rw c.in-8.is c.above_fields-in-8.ensures

pub returns-in_default : goal.returns-in_default
unfolding kinds
returns-in_default c = rw (no_kind c.args.kind (beyond kinds c.args.kind c.in_default.in_default-own.rest)) c.above_fields-in_default.ensures
