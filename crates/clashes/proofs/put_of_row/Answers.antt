use mathlib.Core.Path.{◌≡◌, refl}
use Rattle.filing.specs.Lists.{cut, filed_lists}
use Rattle.phrases.proofs.LineTexts.{as_text}
use Rattle.clashes.proofs.Broken.{at_id, last-number, conversion_there, stock_there, soil_there}
use Rattle.clashes.proofs.Told.{long_here, told_5, told_6, told_7, told_13, told_14}
use native.Mathlib.Omega.{arith}
use Rattle.clashes.proofs.put_of_row.Goals as goal

pub id_below-requires : goal.id_below-requires
id_below-requires c =
    record { good = c.requires.good; place_value = (at_id c.args.edition (filed_lists (cut c.args.lengths.now c.args.area.now)) c.requires.area_value c.in-5.is).broken }

pub put_fractions_above-requires : goal.put_fractions_above-requires
put_fractions_above-requires c =
    let f = filed_lists (cut c.args.lengths.now c.args.area.now) in
    let n = long_here c.requires.fact.1 1 (conversion_there c.args.edition f c.requires.area_value c.in-7.is) in
    (omega (arith, n), omega (arith, c.requires.at_in_bounds))

pub scattered_trees-requires : goal.scattered_trees-requires
scattered_trees-requires c =
    let f = filed_lists (cut c.args.lengths.now c.args.area.now) in
    omega (arith, long_here c.requires.fact.1 2 (stock_there c.args.edition f c.requires.area_value c.in-14.is))

pub soil_uneven-requires : goal.soil_uneven-requires
soil_uneven-requires c =
    let f = filed_lists (cut c.args.lengths.now c.args.area.now) in record { good = c.requires.good; in_bounds = omega (arith, long_here c.requires.fact.1 7 (soil_there c.args.edition f c.requires.area_value (let thirteen' : c.args.number ≡ 13 = let r = c.in_default.in_default-own.rest in last-number c.args.edition (filed_lists (cut c.args.lengths.now c.args.area.now)) c.requires.area_value r.0.0.0.1 r.0.0.1 r.0.1 c.requires.fact.0 r.1 in thirteen'))) }

pub returns-in-5 : goal.returns-in-5
returns-in-5 c =
    let f = filed_lists (cut c.args.lengths.now c.args.area.now) in
    (as_text (told_5 c.args.edition f c.requires.fact.1 c.in-5.is c.id_below.ensures) c.put_row.ensures.0, omega (arith, c.put_row.ensures.1))

pub returns-in-6 : goal.returns-in-6
returns-in-6 c =
    let f = filed_lists (cut c.args.lengths.now c.args.area.now) in
    (as_text (told_6 c.args.edition f c.requires.fact.1 c.in-6.is c.field_above.ensures) c.put_row-in-6.ensures.0, omega (arith, c.put_row-in-6.ensures.1))

pub returns-in-7 : goal.returns-in-7
returns-in-7 c =
    let f = filed_lists (cut c.args.lengths.now c.args.area.now) in
    (as_text (told_7 c.args.edition f c.requires.fact.1 c.in-7.is refl) c.put_fractions_above.ensures.0, omega (arith, c.put_fractions_above.ensures.1))

pub returns-in-14 : goal.returns-in-14
returns-in-14 c =
    let f = filed_lists (cut c.args.lengths.now c.args.area.now) in
    (as_text (told_14 c.args.edition f c.requires.fact.1 c.in-14.is c.scattered_trees.ensures) c.put_row-in-14.ensures.0, omega (arith, c.put_row-in-14.ensures.1))

pub returns-in_default : goal.returns-in_default
returns-in_default c =
    let f = filed_lists (cut c.args.lengths.now c.args.area.now) in
    (as_text (told_13 c.args.edition f c.requires.fact.1 (let thirteen' : c.args.number ≡ 13 = let r = c.in_default.in_default-own.rest in last-number c.args.edition (filed_lists (cut c.args.lengths.now c.args.area.now)) c.requires.area_value r.0.0.0.1 r.0.0.1 r.0.1 c.requires.fact.0 r.1 in thirteen') c.soil_uneven.ensures) c.put_row-in_default.ensures.0, omega (arith, c.put_row-in_default.ensures.1))
