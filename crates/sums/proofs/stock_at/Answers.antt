use Prim.Native.Nat.{◌*◌}
use mathlib.Core.Path.{◌∙◌}
use Rattle.form.specs.Layout.{row_from}
use Rattle.totals.specs.Columns.{stock_part}
use Rattle.sums.proofs.stock_at.Goals as goal

pub returns : goal.returns
unfolding stock_part row_from
returns c = c.carbon_of.ensures ∙ (λ i. c.four_at.ensures i * c.two_at.ensures.0 i * c.two_at-2.ensures.0 i)
