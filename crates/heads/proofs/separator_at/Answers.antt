use mathlib.Core.Path.{sym, ap, ◌∙◌}
use mathlib.Core.Bool.{Bool, cond}
use lib.ListN.{get_or}
use Rattle.std.specs.Prelude.{Some, None}
use Rattle.heads.proofs.HeadLaws.{separator_none, separator_is}
use Rattle.heads.proofs.separator_at.Goals as goal

-- Nothing at the end, or a byte that separates or does not. Assumes nothing.
pub returns-then-at-line : goal.returns-then-at-line
returns-then-at-line c = separator_none c.args.line.now c.args.at c.if-at-line.true

pub returns-then-is_separator : goal.returns-then-is_separator
returns-then-is_separator c =
    sym (ap (λ (q : Bool). cond q (Some (get_or c.args.line.now c.args.at 0)) None) c.if-is_separator.true) ∙ separator_is c.args.line.now c.args.at c.is_separator.ensures

pub returns-else-is_separator : goal.returns-else-is_separator
returns-else-is_separator c =
    sym (ap (λ (q : Bool). cond q (Some (get_or c.args.line.now c.args.at 0)) None) c.if-is_separator.false) ∙ separator_is c.args.line.now c.args.at c.is_separator.ensures
