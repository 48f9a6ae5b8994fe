use Rattle.std.proofs.lemmas.Result.{err_from_is_err_and}
use Rattle.filing.specs.Lists.{cut, filed_lists}
use Rattle.balance.proofs.Weighing.{wood-broken, wood-kept}
use Rattle.balance.proofs.unwritten.rule_lists.Goals as goal

pub returns-in_err-rule_wood : goal.returns-in_err-rule_wood
returns-in_err-rule_wood c =
    let f = filed_lists (cut c.args.lengths.now c.args.area.now) in
    let p = err_from_is_err_and c.from_residual.result c.from_residual.ensures.1 in
    rw (p.1, p.2) (wood-broken f c.rule_wood.ensures c.weigh_lists.ensures c.in_err-rule_wood.was)

pub returns : goal.returns
returns c =
    let f = filed_lists (cut c.args.lengths.now c.args.area.now) in
    wood-kept f c.rule_wood.ensures c.weigh_lists.ensures c.in_ok-rule_wood.was c.rule_unwritten.ensures
