use Prim.Native.Nat.{ℕ}
use mathlib.Core.Path.{ap}
use Rattle.filing.specs.Lists.{cut, filed_lists}
use Rattle.reasons.specs.declared.Reason.TheVariants.{IdBelow}
use Rattle.reasons.proofs.Rows.{id_used, id_parts}
use Rattle.clashes.proofs.Finding.{used-before}
use Rattle.clashes.proofs.Told.{some_numbers, id_there}
use native.Mathlib.Omega.{arith}
use Rattle.clashes.proofs.values.id_below.Goals as goal

pub overflow_sub-row : goal.overflow_sub-row
overflow_sub-row c =
    (id_parts (filed_lists (cut c.args.lengths.now c.args.area.now)) c.args.row.place c.requires.place_value).1

pub find_row-before-requires : goal.find_row-before-requires
find_row-before-requires c =
    let l = cut c.args.lengths.now c.args.area.now in
    let p = c.args.row.place in
    let h = id_parts (filed_lists l) p c.requires.place_value in record { good = c.requires.good; place_value = used-before 1 l p (id_used (filed_lists l) p c.requires.place_value) h.1 h.2 }

pub bounds-area-from : goal.bounds-area-from
bounds-area-from c = let w = c.find_row-before.ensures in omega (arith, some_numbers w, w.inside)

pub returns : goal.returns
returns c =
    ap (λ (i : ℕ). IdBelow c.args.row i) (id_there c.find_row-before.ensures)
