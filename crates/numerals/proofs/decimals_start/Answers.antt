use Rattle.numerals.proofs.Shapes.{at_the_end, behind_it}
use borrow.Author.Rules.{rules}
use Rattle.numerals.proofs.decimals_start.Goals as goal

pub returns-then-whole-field : goal.returns-then-whole-field
returns-then-whole-field c = (search rules, at_the_end c.args.field.now _ c.count_digits-whole.ensures.0 c.if-whole-field.true)

pub returns : goal.returns
returns c = (search rules, behind_it c.args.field.now _ c.count_digits-whole.ensures.0)
