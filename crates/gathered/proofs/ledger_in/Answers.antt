use Prim.Native.Nat.{◌^◌, ◌<◌}
use mathlib.Core.Path.{sym, subst}
use Rattle.form.specs.Verdict.{Formed}
use Rattle.standing.proofs.Accepted.{formed}
use Rattle.wide.specs.Numbers.{value}
use Rattle.totals.specs.Sums.{totals_of}
use Rattle.totals.specs.declared.DryMatter.{DryMatter}
use Rattle.totals.specs.declared.Totals.{Totals}
use Rattle.ledger.specs.Ledger.{entered}
use Rattle.worksheets.specs.Sheets.{Within}
use Rattle.worksheets.proofs.Accepted.{ratios, bounded}
use Rattle.gathered.proofs.ledger_in.Goals as goal

pub read_parameters-p-requires : goal.read_parameters-p-requires
read_parameters-p-requires c = (let acc' : Formed c.args.bytes.now c.args.c = formed c.args.bytes.now c.args.c c.requires in acc')

pub sum_conversion-t-requires : goal.sum_conversion-t-requires
sum_conversion-t-requires c = (let acc' : Formed c.args.bytes.now c.args.c = formed c.args.bytes.now c.args.c c.requires in acc')

pub sum_stocks-requires : goal.sum_stocks-requires
sum_stocks-requires c = (let acc' : Formed c.args.bytes.now c.args.c = formed c.args.bytes.now c.args.c c.requires in acc')

pub sum_harvest-requires : goal.sum_harvest-requires
sum_harvest-requires c = (let acc' : Formed c.args.bytes.now c.args.c = formed c.args.bytes.now c.args.c c.requires in acc')

pub work_matter-requires : goal.work_matter-requires
work_matter-requires c = (let acc' : Formed c.args.bytes.now c.args.c = formed c.args.bytes.now c.args.c c.requires in acc')

pub enter-requires : goal.enter-requires
unfolding entered totals_of
enter-requires c =
    let n = c.args.bytes.now in
    let w = bounded n c.args.c (let acc' : Formed c.args.bytes.now c.args.c = formed c.args.bytes.now c.args.c c.requires in acc') in
    let r = subst Within (sym c.read_parameters-p.ensures) (ratios n c.args.c (let acc' : Formed c.args.bytes.now c.args.c = formed c.args.bytes.now c.args.c c.requires in acc')) in
    (subst (λ (x : DryMatter). value x.0 < 2 ^ 64) (sym c.sum_harvest.ensures) w.k, subst (λ (x : Totals). value x.cleared.0 < 2 ^ 64) (sym c.sum_conversion-t.ensures) w.l, r.n)
