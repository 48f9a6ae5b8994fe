use mathlib.Core.Path.{sym, ◌∙◌}
use Rattle.form.proofs.Numbers.{number_1}
use Rattle.reasons.proofs.Rows.{trees_there}
use Rattle.reasons.proofs.row_reasons.scattered_trees.Goals as goal

pub returns : goal.returns
returns c =
    trees_there c.args.bytes.now c.args.place c.requires.1 c.row_named-row.ensures c.row_start.ensures (c.byte_at-code.ensures.0 ∙ sym (number_1 _ _)) c.two_at-edition.ensures.0
