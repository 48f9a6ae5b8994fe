use mathlib.Core.Path.{sym, ap, subst, ◌∙◌}
use Prim.Native.Nat.{◌^◌, ◌<◌}
use native.Mathlib.Omega.{arith}
use Rattle.wide.specs.Numbers.{value}
use Rattle.totals.proofs.Limits.{thousand}
use Rattle.units.specs.Columns.{column_o}
use Rattle.units.specs.declared.NetDryMatter.{NetDryMatter}
use Rattle.ledger.proofs.Sizes.{size_M}
use Rattle.ledger.specs.Ledger.{entered}
use Rattle.ledger.proofs.enter.Goals as goal

pub carbon_in-o-requires : goal.carbon_in-o-requires
carbon_in-o-requires c =
    let m = subst (λ (x : NetDryMatter). value x.0.size < 2 ^ 80) (sym c.net_wood.ensures) (size_M _ _ c.requires.0 c.requires.1) in
    omega (arith, thousand 80 _ c.args.n m c.requires.2)

pub returns : goal.returns
unfolding entered
returns c =
    let a = c.args in
    let o = c.carbon_in-o.ensures ∙ ap (λ (m : NetDryMatter). column_o m a.n) c.net_wood.ensures in
    λ i. record { e = a.e; k = a.k; l = a.t.cleared; o = o i; onsite = a.t.onsite; offsite = a.t.offsite; decay = a.t.decay; matter = a.matter }
