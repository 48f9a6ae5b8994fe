use Prim.Native.Nat.{◌*◌}
use mathlib.Core.Path.{◌∙◌}
use Rattle.form.specs.Layout.{row_from}
use Rattle.soils.specs.Soils.{stock_now, stock_then}
use Rattle.soils.proofs.Limits.{areas_at}
use native.Mathlib.Omega.{arith}
use Rattle.soils.proofs.stocks_at.Goals as goal

pub stock_on-requires : goal.stock_on-requires
stock_on-requires c =
    (c.carbon_at-carbon.ensures.1, omega (arith, c.four_at.ensures, areas_at c.args.bytes.now c.args.at c.requires.at_value))

pub stock_on-requires-2 : goal.stock_on-requires-2
stock_on-requires-2 c =
    (c.carbon_at-carbon.ensures.1, omega (arith, c.four_at-2.ensures, areas_at c.args.bytes.now c.args.at c.requires.at_value))

pub returns : goal.returns
unfolding stock_now stock_then row_from
returns c =
    let e = c.carbon_at-carbon.ensures.0 in
    let today = c.stock_on.ensures ∙ (λ i. e i * c.four_at.ensures i) in
    let former = c.stock_on-2.ensures ∙ (λ i. e i * c.four_at-2.ensures i) in
    λ i. record { now = record { 0 = today i }; then = record { 0 = former i } }
