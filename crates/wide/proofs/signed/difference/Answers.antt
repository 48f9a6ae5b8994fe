use Rattle.std.proofs.Common.{◌<◌, ◌≤◌, true, false, sym, ap, ◌∙◌, le_of_lt, ltb-false, ltb-true}
use Rattle.wide.specs.Numbers.{value}
use Rattle.wide.specs.Signs.{sized}
use Rattle.wide.proofs.SignLaws.{holds_as, minus_below, minus_above}
use Rattle.wide.proofs.signed.difference.Goals as goal

pub sub-requires : goal.sub-requires
sub-requires c = le_of_lt (let below' : value c.args.a < value c.args.b = ltb-true _ _ (sym c.less.ensures ∙ c.if-less.true) in below')

pub sub-requires-else-less : goal.sub-requires-else-less
sub-requires-else-less c = (let above' : value c.args.b ≤ value c.args.a = ltb-false _ _ (sym c.less.ensures ∙ c.if-less.false) in above')

pub returns-then-less : goal.returns-then-less
returns-then-less c = holds_as c.with_sign.ensures (ap (sized true) c.sub.ensures.number ∙ minus_below _ _ (let below' : value c.args.a < value c.args.b = ltb-true _ _ (sym c.less.ensures ∙ c.if-less.true) in below'))

pub returns-else-less : goal.returns-else-less
returns-else-less c = holds_as c.with_sign-else-less.ensures (ap (sized false) c.sub-else-less.ensures.number ∙ minus_above _ _ (let above' : value c.args.b ≤ value c.args.a = ltb-false _ _ (sym c.less.ensures ∙ c.if-less.false) in above'))
