use mathlib.Core.Path.{sym, refl, ◌∙◌}
use Rattle.form.specs.First.{any}
use Rattle.form.proofs.Search.{any_more, any_found}
use borrow.Author.Rules.{rules}
use Rattle.blocks.proofs.stray_records.Goals as goal

pub loop-r-init : goal.loop-r-init
unfolding any
loop-r-init c = (search rules, refl)

pub returns-then-stray_record : goal.returns-then-stray_record
returns-then-stray_record c = sym (any_found _ _ 12 (sym c.stray_record.ensures ∙ c.if-stray_record.true) (search rules))

pub loop-r-preserved : goal.loop-r-preserved
loop-r-preserved c = (search rules, any_more _ _ c.loop-r.invariant.1 (cc))
