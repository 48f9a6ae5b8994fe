use Prim.Native.Nat.{◌+◌, ◌*◌}
use mathlib.Core.Path.{◌≡◌, ap, ◌∙◌}
use Rattle.form.specs.Records.{filed_rows}
use Rattle.form.specs.Sums.{sum_of, harvest_part, cleared_part, column_k}
use Rattle.filing.specs.Lists.{cut, filed_lists}
use Rattle.wide.specs.Numbers.{value}
use Rattle.wide.proofs.Laws.{words, is_as}
use Rattle.lists.proofs.KindRows.{Part}
use Rattle.balance.proofs.TwoParts.{first_part, third-part}
use native.Mathlib.Omega.{arith}
use Rattle.balance.proofs.unwritten.weigh_lists.Goals as goal

pub slice_bounds-sum_list-end : goal.slice_bounds-sum_list-end
slice_bounds-sum_list-end c = (let one' : let s = c.args in Part s.lengths.now s.area.now 1 0 c.length_at-conversion.result = first_part c.args.lengths.now c.args.area.now c.requires c.length_at-conversion.ensures.0 in one').inside

pub slice_bounds-sum_list-end-2 : goal.slice_bounds-sum_list-end-2
slice_bounds-sum_list-end-2 c = (let third' : let s = c.args in let from = c.length_at-conversion.result + c.length_at.result in Part s.lengths.now s.area.now 3 from (from + c.length_at-2.result) = third-part c.args.lengths.now c.args.area.now c.requires c.length_at-conversion.ensures.0 c.length_at.ensures.0 c.length_at-2.ensures.0 in third').inside

pub returns : goal.returns
returns c =
    let s = c.args in
    let f = filed_lists (cut s.lengths.now s.area.now) in
    let k : value c.sum_list-used.result ≡ column_k (filed_rows f 3) = c.sum_list-used.ensures.0.number ∙ ap (sum_of harvest_part) (let third' : let s = c.args in let from = c.length_at-conversion.result + c.length_at.result in Part s.lengths.now s.area.now 3 from (from + c.length_at-2.result) = third-part c.args.lengths.now c.args.area.now c.requires c.length_at-conversion.ensures.0 c.length_at.ensures.0 c.length_at-2.ensures.0 in third').rows in
    let used = words {n = 100 * column_k (filed_rows f 3)} (is_as c.times.ensures (omega (arith, k))) in
    let cleared = words (is_as c.sum_list-cleared.ensures.0 (ap (sum_of cleared_part) (let one' : let s = c.args in Part s.lengths.now s.area.now 1 0 c.length_at-conversion.result = first_part c.args.lengths.now c.args.area.now c.requires c.length_at-conversion.ensures.0 in one').rows)) in
    λ i. record { used = record { 0 = used i }; cleared = record { 0 = cleared i } }
