use Rattle.std.proofs.Common.{rules, ◌≡◌, ◌∙◌, ◌*◌, ◌^◌, sym, ap, subst, arith, lit≤}
use Rattle.form.specs.Layout.{soil, row_at}
use Rattle.form.specs.Verdict.{rows}
use Rattle.form.proofs.EachKind.{kinds_are}
use Rattle.soils.specs.Soils.{row_stocks, StocksMost, all_stocks, gain_of, change_of, soils_of}
use Rattle.soils.proofs.Rows.{stocks_added, row_small, gain_small}
use Rattle.soils.proofs.work_soils.Goals as goal

pub sum_rows-requires-clause-known : goal.sum_rows-requires-clause-known
sum_rows-requires-clause-known c = (lit≤ tt, omega (arith, kinds_are))

pub sum_rows-requires-clause-small : goal.sum_rows-requires-clause-small
sum_rows-requires-clause-small c = λ at t w p.
    let r = row_at soil c.args.bytes.now at in
    let e : t ≡ row_stocks r = search rules in
    subst (StocksMost (27 * 10 ^ 15)) (sym e) (row_small r w.kept)

pub yearly-requires : goal.yearly-requires
unfolding all_stocks
yearly-requires c =
    let e = c.sum_rows.ensures row_stocks (λ at t w p. search rules) ∙ stocks_added (rows 7 c.args.bytes.now) in
    gain_small c.args.bytes.now c.args.c c.requires (c.gained-soil.ensures ∙ ap gain_of e)

pub returns : goal.returns
unfolding soils_of
returns c =
    let e = c.gained-soil.ensures ∙ ap gain_of (c.sum_rows.ensures row_stocks (λ at t w p. search rules) ∙ stocks_added (rows 7 c.args.bytes.now)) in
    let y = c.yearly.ensures ∙ ap change_of e in
    λ i. record { soil = e i; change = y i }
