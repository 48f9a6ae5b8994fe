-- The bytes that are taken are those that are wanted. Assumes nothing.
use Rattle.std.proofs.Common.{arith, rules, ap, ◌∙◌, drop, length-take-le}
use lib.Seq.{take_at}
use Rattle.form.proofs.EachKind.{kinds_are}
use Rattle.cutting.specs.Cutting.{wanted_of}
use Rattle.nation.proofs.Filling.{head_ends, head_filled}
use Rattle.nation.proofs.fill.Goals as goal

pub returns-then-head-lt6-clause-wanted : goal.returns-then-head-lt6-clause-wanted
returns-then-head-lt6-clause-wanted g c =
    let six = c.take_from.auto.bytes ∙ length-take-le 6 c.args.bytes.now (omega (arith, c.requires, kinds_are)) in
    head_ends _ _ _ _ _ six c.if-head-lt6.true c.in_ok-head.ensures.whole

pub returns-in-Ok-clause-wanted : goal.returns-in-Ok-clause-wanted
returns-in-Ok-clause-wanted g c =
    let head = c.take_from in
    let six = head.auto.bytes ∙ length-take-le 6 c.args.bytes.now (omega (arith, c.requires, kinds_are)) in
    let wants = c.wanted-n.ensures.0 ∙ ap wanted_of (take_at head.new.bytes (drop 6 c.args.bytes.now) 6 six) in
    head_filled _ _ _ _ _ _ _ _ _ _ six c.if-head-lt6.false c.in_ok-head.ensures.whole wants (search rules) (omega (arith, c.wanted-n.ensures.1)) c.in-Ok.ensures.count.0 c.in-Ok.ensures.whole (omega arith)
