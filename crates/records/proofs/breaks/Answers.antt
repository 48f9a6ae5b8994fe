use mathlib.Core.Path.{ap}
use mathlib.Core.Bool.{Bool, ◌&&◌}
use borrow.Author.Tests.{ne_eqb}
use lib.Dec.{eqb}
use Rattle.form.specs.Block.{edition}
use Rattle.form.specs.Records.{is_scattered, overspent}
use Rattle.records.proofs.Rows.{of_kind}
use Rattle.records.proofs.breaks.Goals as goal

pub returns-in-6 : goal.returns-in-6
returns-in-6 c = rw c.in-6.is c.above_at.ensures

pub returns-in-14 : goal.returns-in-14
returns-in-14 c =
    let a = c.args in
    rw (c.in-14.is, c.two_at.ensures.0)
    (ap (λ (x : Bool). eqb (edition a.bytes.now 0) 3 && x) (of_kind 2 a.kind is_scattered a.bytes.now a.at c.scattered_at.ensures))

pub returns-in-7 : goal.returns-in-7
returns-in-7 c =
    let a = c.args in
    rw c.in-7.is (of_kind 1 a.kind overspent a.bytes.now a.at c.overspent_at.ensures)

pub returns-in_default : goal.returns-in_default
returns-in_default c = let r = c.in_default.in_default-own.rest in rw (ne_eqb _ 6 r.0.0.1, ne_eqb _ 14 r.0.1, ne_eqb _ 7 r.1)
