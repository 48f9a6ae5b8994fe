use Rattle.std.proofs.lemmas.Result.{err_from_is_err_and}
use Rattle.form.specs.Records.{record_numbers}
use Rattle.filing.specs.Lists.{cut, filed_lists}
use Rattle.form.proofs.Numbered.{number_stopped, number_passed, numbers-done}
use borrow.Author.Rules.{rules}
use native.Mathlib.Omega.{arith}
use Rattle.lists.proofs.rule_records.Goals as goal

pub returns-in_err-refuse : goal.returns-in_err-refuse
returns-in_err-refuse c =
    let a = c.args in
    let f = filed_lists (cut a.lengths.now a.area.now) in
    let p = err_from_is_err_and c.from_residual.result c.from_residual.ensures.1 in
    rw (p.1, p.2) (number_stopped a.edition f record_numbers c.loop-i.i c.loop-i.invariant.1 (omega arith) c.record_rule-number.ensures c.first_broken.ensures c.refuse.ensures c.in_err-refuse.was)

pub loop-i-preserved : goal.loop-i-preserved
loop-i-preserved c =
    let a = c.args in
    let f = filed_lists (cut a.lengths.now a.area.now) in
    (search rules, number_passed a.edition f record_numbers c.loop-i.i c.loop-i.invariant.1 (omega arith) c.record_rule-number.ensures c.first_broken.ensures c.refuse.ensures c.in_ok-refuse.was)

pub returns : goal.returns
returns c =
    let a = c.args in
    let f = filed_lists (cut a.lengths.now a.area.now) in
    numbers-done a.edition f record_numbers c.loop-i.i c.loop-i.invariant.1 (omega arith)
