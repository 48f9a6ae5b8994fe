use mathlib.Core.Path.{sym, ap, subst, ◌∙◌}
use Prim.Native.Nat.{◌^◌, ◌<◌}
use Rattle.wide.specs.Numbers.{value}
use Rattle.units.specs.Columns.{column_q, reported}
use Rattle.units.specs.declared.NetCarbon.{NetCarbon}
use Rattle.ledger.proofs.Sizes.{size_P}
use Rattle.ledger.specs.Derived.{stocks_of}
use Rattle.ledger.proofs.work_stocks.Goals as goal

pub net_co2-q-requires : goal.net_co2-q-requires
net_co2-q-requires c =
    subst (λ (x : NetCarbon). value x.0.size < 2 ^ 100) (sym c.net_carbon-p.ensures) (size_P c.args.g.e c.args.g.o c.requires.e c.requires.o)

pub returns : goal.returns
unfolding stocks_of
returns c =
    let g = c.args.g in
    let p = c.net_carbon-p.ensures in
    let q = c.net_co2-q.ensures ∙ ap column_q p in
    let r = c.emission-report.ensures ∙ ap reported q in
    λ i. record { e = g.e; k = g.k; l = g.l; m = c.net_wood-m.ensures i; o = g.o; p = p i; q = q i; report = r i }
