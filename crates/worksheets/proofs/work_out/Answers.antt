use Prim.Native.Nat.{◌^◌, ◌<◌}
use mathlib.Core.Path.{◌≡◌, sym, ap, subst, ◌∙◌}
use native.Mathlib.Omega.{arith}
use Rattle.form.specs.Verdict.{rows, Formed}
use Rattle.form.specs.declared.Counts.{Counts}
use Rattle.standing.proofs.Accepted.{formed}
use Rattle.wide.specs.Numbers.{value}
use Rattle.wide.proofs.Laws.{value_words}
use Rattle.totals.specs.Abandoned.{uptake_total}
use Rattle.totals.specs.Sums.{totals_of}
use Rattle.totals.specs.declared.Carbon.{Carbon}
use Rattle.totals.specs.declared.DryMatter.{DryMatter}
use Rattle.totals.specs.declared.Totals.{Totals}
use Rattle.totals.proofs.Accepted.{columns-small}
use Rattle.ledger.specs.Ledger.{entered, ledger_of, Bounded}
use Rattle.ledger.specs.Derived.{stocks_of, conversion_of}
use Rattle.ledger.proofs.Adding.{entered_as}
use Rattle.worksheets.specs.Sheets.{Within, by_kind, given, gases_by, abandoned_of, stock_rows}
use Rattle.worksheets.proofs.Accepted.{ratios, bounded}
use Rattle.worksheets.proofs.work_out.Goals as goal

pub read_parameters-p-requires : goal.read_parameters-p-requires
read_parameters-p-requires c = (let acc' : Formed c.args.bytes.now c.args.c = formed c.args.bytes.now c.args.c c.requires in acc')

pub sum_conversion-t-requires : goal.sum_conversion-t-requires
sum_conversion-t-requires c = (let acc' : Formed c.args.bytes.now c.args.c = formed c.args.bytes.now c.args.c c.requires in acc')

pub sum_stocks-requires : goal.sum_stocks-requires
sum_stocks-requires c = (let acc' : Formed c.args.bytes.now c.args.c = formed c.args.bytes.now c.args.c c.requires in acc')

pub sum_harvest-requires : goal.sum_harvest-requires
sum_harvest-requires c = (let acc' : Formed c.args.bytes.now c.args.c = formed c.args.bytes.now c.args.c c.requires in acc')

pub work_matter-requires : goal.work_matter-requires
work_matter-requires c = (let acc' : Formed c.args.bytes.now c.args.c = formed c.args.bytes.now c.args.c c.requires in acc')

pub enter-g-requires : goal.enter-g-requires
unfolding entered totals_of
enter-g-requires c =
    let n = c.args.bytes.now in
    let w = bounded n c.args.c (let acc' : Formed c.args.bytes.now c.args.c = formed c.args.bytes.now c.args.c c.requires in acc') in
    let r = subst Within (sym c.read_parameters-p.ensures) (ratios n c.args.c (let acc' : Formed c.args.bytes.now c.args.c = formed c.args.bytes.now c.args.c c.requires in acc')) in
    (subst (λ (x : DryMatter). value x.0 < 2 ^ 64) (sym c.sum_harvest.ensures) w.k, subst (λ (x : Totals). value x.cleared.0 < 2 ^ 64) (sym c.sum_conversion-t.ensures) w.l, r.n)

pub work_stocks-stocks-requires : goal.work_stocks-stocks-requires
work_stocks-stocks-requires c = (let room' : Bounded c.enter-g.result = subst Bounded (sym (let ledger' : let s = c.args.bytes.now in c.enter-g.result ≡ ledger_of (rows 1 s) (rows 2 s) (rows 3 s) (given (by_kind s)).n = entered_as c.enter-g.ensures c.sum_stocks.ensures c.sum_harvest.ensures c.sum_conversion-t.ensures c.work_matter.ensures (λ i. (c.read_parameters-p.ensures i).n) in ledger')) (bounded c.args.bytes.now c.args.c (let acc' : Formed c.args.bytes.now c.args.c = formed c.args.bytes.now c.args.c c.requires in acc')) in room')

pub work_conversion-conversion-requires : goal.work_conversion-conversion-requires
work_conversion-conversion-requires c = (let room' : Bounded c.enter-g.result = subst Bounded (sym (let ledger' : let s = c.args.bytes.now in c.enter-g.result ≡ ledger_of (rows 1 s) (rows 2 s) (rows 3 s) (given (by_kind s)).n = entered_as c.enter-g.ensures c.sum_stocks.ensures c.sum_harvest.ensures c.sum_conversion-t.ensures c.work_matter.ensures (λ i. (c.read_parameters-p.ensures i).n) in ledger')) (bounded c.args.bytes.now c.args.c (let acc' : Formed c.args.bytes.now c.args.c = formed c.args.bytes.now c.args.c c.requires in acc')) in room')

pub gases_of-gases-requires : goal.gases_of-gases-requires
gases_of-gases-requires c =
    ((let room' : Bounded c.enter-g.result = subst Bounded (sym (let ledger' : let s = c.args.bytes.now in c.enter-g.result ≡ ledger_of (rows 1 s) (rows 2 s) (rows 3 s) (given (by_kind s)).n = entered_as c.enter-g.ensures c.sum_stocks.ensures c.sum_harvest.ensures c.sum_conversion-t.ensures c.work_matter.ensures (λ i. (c.read_parameters-p.ensures i).n) in ledger')) (bounded c.args.bytes.now c.args.c (let acc' : Formed c.args.bytes.now c.args.c = formed c.args.bytes.now c.args.c c.requires in acc')) in room').onsite, subst Within (sym c.read_parameters-p.ensures) (ratios c.args.bytes.now c.args.c (let acc' : Formed c.args.bytes.now c.args.c = formed c.args.bytes.now c.args.c c.requires in acc')))

pub sum_abandoned-requires : goal.sum_abandoned-requires
sum_abandoned-requires c = (let acc' : Formed c.args.bytes.now c.args.c = formed c.args.bytes.now c.args.c c.requires in acc')

pub work_abandoned-abandoned-requires : goal.work_abandoned-abandoned-requires
work_abandoned-abandoned-requires c =
    let n = c.args.bytes.now in
    subst (λ (x : Carbon). value x.0 < 2 ^ 64) (sym c.sum_abandoned.ensures) (omega (arith, (columns-small n c.args.c (let acc' : Formed c.args.bytes.now c.args.c = formed c.args.bytes.now c.args.c c.requires in acc')).7, (value_words (uptake_total (rows 5 n))).number))

pub work_savannas-savannas-requires : goal.work_savannas-savannas-requires
work_savannas-savannas-requires c = (let acc' : Formed c.args.bytes.now c.args.c = formed c.args.bytes.now c.args.c c.requires in acc')

pub work_soils-soils-requires : goal.work_soils-soils-requires
work_soils-soils-requires c = (let acc' : Formed c.args.bytes.now c.args.c = formed c.args.bytes.now c.args.c c.requires in acc')

pub work_crops-crops-requires : goal.work_crops-crops-requires
work_crops-crops-requires c = (let acc' : Formed c.args.bytes.now c.args.c = formed c.args.bytes.now c.args.c c.requires in acc')

pub returns : goal.returns
unfolding entered totals_of
returns c =
    let stocks = c.work_stocks-stocks.ensures ∙ ap stocks_of (let ledger' : let s = c.args.bytes.now in c.enter-g.result ≡ ledger_of (rows 1 s) (rows 2 s) (rows 3 s) (given (by_kind s)).n = entered_as c.enter-g.ensures c.sum_stocks.ensures c.sum_harvest.ensures c.sum_conversion-t.ensures c.work_matter.ensures (λ i. (c.read_parameters-p.ensures i).n) in ledger') in
    let conversion = c.work_conversion-conversion.ensures ∙ ap conversion_of (let ledger' : let s = c.args.bytes.now in c.enter-g.result ≡ ledger_of (rows 1 s) (rows 2 s) (rows 3 s) (given (by_kind s)).n = entered_as c.enter-g.ensures c.sum_stocks.ensures c.sum_harvest.ensures c.sum_conversion-t.ensures c.work_matter.ensures (λ i. (c.read_parameters-p.ensures i).n) in ledger') in
    let gases = c.gases_of-gases.ensures ∙ (λ i. gases_by ((let ledger' : let s = c.args.bytes.now in c.enter-g.result ≡ ledger_of (rows 1 s) (rows 2 s) (rows 3 s) (given (by_kind s)).n = entered_as c.enter-g.ensures c.sum_stocks.ensures c.sum_harvest.ensures c.sum_conversion-t.ensures c.work_matter.ensures (λ i. (c.read_parameters-p.ensures i).n) in ledger') i).onsite (c.read_parameters-p.ensures i)) in
    let abandoned = c.work_abandoned-abandoned.ensures ∙ ap abandoned_of c.sum_abandoned.ensures in
    let scattered = c.scattered_rows-scattered.ensures ∙ ap (λ (x : Counts). stock_rows x.scattered) (let acc' : Formed c.args.bytes.now c.args.c = formed c.args.bytes.now c.args.c c.requires in acc').counts in
    λ i. record { stocks = stocks i; conversion = conversion i; thinner = (c.sum_conversion-t.ensures i).thinner; gases = gases i; abandoned = abandoned i; savannas = c.work_savannas-savannas.ensures i; soils = c.work_soils-soils.ensures i; scattered = scattered i; matter = ((let ledger' : let s = c.args.bytes.now in c.enter-g.result ≡ ledger_of (rows 1 s) (rows 2 s) (rows 3 s) (given (by_kind s)).n = entered_as c.enter-g.ensures c.sum_stocks.ensures c.sum_harvest.ensures c.sum_conversion-t.ensures c.work_matter.ensures (λ i. (c.read_parameters-p.ensures i).n) in ledger') i).matter; crops = c.work_crops-crops.ensures i }
