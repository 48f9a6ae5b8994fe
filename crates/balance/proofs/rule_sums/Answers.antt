use Rattle.std.proofs.lemmas.Result.{err_from_is_err_and}
use Rattle.form.specs.Records.{filed}
use Rattle.balance.proofs.Weighing.{wood-broken, wood-kept}
use Rattle.balance.proofs.rule_sums.Goals as goal

pub returns-in_err-rule_wood : goal.returns-in_err-rule_wood
returns-in_err-rule_wood c =
    let p = err_from_is_err_and c.from_residual.result c.from_residual.ensures.1 in
    rw (p.1, p.2) (wood-broken (filed c.args.bytes.now) c.rule_wood.ensures c.weigh_wood.ensures c.in_err-rule_wood.was)

pub returns : goal.returns
returns c =
    wood-kept (filed c.args.bytes.now) c.rule_wood.ensures c.weigh_wood.ensures c.in_ok-rule_wood.was c.rule_areas.ensures
