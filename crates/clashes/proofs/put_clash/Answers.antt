use mathlib.Core.Path.{refl}
use Rattle.form.proofs.EachKind.{few_kinds}
use Rattle.filing.specs.Lists.{cut, filed_lists}
use Rattle.phrases.proofs.LineTexts.{as_text}
use Rattle.clashes.proofs.Broken.{used_there}
use Rattle.clashes.proofs.Told.{some_numbers, here, told_12}
use borrow.Author.Rules.{rules}
use native.Mathlib.Omega.{arith}
use Rattle.clashes.proofs.put_clash.Goals as goal

pub returns-then-number-eq12 : goal.returns-then-number-eq12
returns-then-number-eq12 c =
    let f = filed_lists (cut c.args.lengths.now c.args.area.now) in
    (as_text (told_12 c.args.edition f c.args.place c.if-number-eq12.true) c.put_wood.ensures.0, c.put_wood.ensures.1)

pub find_row-w-requires : goal.find_row-w-requires
find_row-w-requires c =
    record { good = c.requires.good; place_value = used_there c.args.edition (filed_lists (cut c.args.lengths.now c.args.area.now)) c.requires.area_value c.if-number-eq12.false }

pub overflow_cast-row : goal.overflow_cast-row
overflow_cast-row c = omega (arith, c.find_row-w.ensures.known-kind.1, few_kinds)

pub bounds-area-from : goal.bounds-area-from
bounds-area-from c = let w = c.find_row-w.ensures in omega (arith, some_numbers w, w.inside)

pub put_of_row-requires : goal.put_of_row-requires
put_of_row-requires c =
    record { good = c.requires.good; area_value = c.requires.area_value; fact = (c.if-number-eq12.false, here c.find_row-w.ensures c.numbers.ensures.0 refl); at_in_bounds = search rules }
