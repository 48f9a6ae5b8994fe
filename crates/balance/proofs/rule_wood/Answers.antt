use mathlib.Core.Path.{sym, ◌∙◌}
use mathlib.Core.List.{[]}
use Rattle.form.specs.Ruling.{ruling}
use Rattle.form.proofs.Order.{one_broken, one_kept}
use Rattle.balance.proofs.rule_wood.Goals as goal

pub returns-then-less : goal.returns-then-less
returns-then-less c = sym (one_broken 12 _ [] (sym c.less.ensures ∙ c.if-less.true))

pub returns : goal.returns
unfolding ruling
returns c = sym (one_kept 12 _ [] (sym c.less.ensures ∙ c.if-less.false))
