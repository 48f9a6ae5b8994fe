use mathlib.Core.Path.{◌≡◌, refl}
use native.Mathlib.Omega.{arith}
use lib.Dec.{eqb}
use borrow.Author.Tests.{ne_eqb, eqb-true}
use Rattle.form.specs.Records.{filed, broken_by}
use Rattle.form.specs.Block.{edition}
use Rattle.form.proofs.Tests.{and-true}
use Rattle.form.proofs.SecondEdition.{first-scattered}
use Rattle.form.proofs.Meaning.{length-first}
use Rattle.areas.proofs.Balanced.{place_told}
use Rattle.reasons.specs.Reasons.{reason_of}
use Rattle.reasons.proofs.Refused.{at_check, at_header, at_block, at_id, at_field, at_fractions, at_soil, at_trees, last-number, wood_formed, soil_formed}
use Rattle.reasons.proofs.reason_of.Goals as goal

pub bad_check-requires : goal.bad_check-requires
bad_check-requires c = (at_check c.args.bytes.now c.requires c.in-2.is).inside

pub bad_header-requires : goal.bad_header-requires
bad_header-requires c =
    let s = c.args.bytes.now in
    ((at_header s c.requires c.in-3.is).inside, length-first s _ _ c.requires (λ q. absurd (omega (arith, c.in-3.is, q))))

pub bad_block-requires : goal.bad_block-requires
bad_block-requires c =
    let s = c.args.bytes.now in
    ((at_block s c.requires c.in-4.is).inside, length-first s _ _ c.requires (λ q. absurd (omega (arith, c.in-4.is, q))))

pub id_below-requires : goal.id_below-requires
id_below-requires c = let w = at_id c.args.bytes.now c.requires c.in-5.is in (w.inside, w.broken)

pub field_above-requires : goal.field_above-requires
field_above-requires c = (at_field c.args.bytes.now c.requires c.in-6.is).inside

pub fractions_above-requires : goal.fractions_above-requires
unfolding broken_by
fractions_above-requires c =
    let s = c.args.bytes.now in
    let p = c.args.place in
    let w = at_fractions s c.requires c.in-7.is in
    (w.inside, eqb-true ((filed s).kind p) 1 (and-true (eqb ((filed s).kind p) 1) _ (and-true ((filed s).used p) _ w.broken).1).0)

pub cleared_above-requires : goal.cleared_above-requires
cleared_above-requires c = wood_formed c.args.bytes.now c.requires c.in-12.is

pub scattered_trees-requires : goal.scattered_trees-requires
scattered_trees-requires c =
    let s = c.args.bytes.now in
    let w = first-scattered (edition s 0) (filed s) c.args.place (at_trees s c.requires c.in-14.is) in
    (w.inside, w.stock-row)

pub soil_uneven-requires : goal.soil_uneven-requires
soil_uneven-requires c =
    let s = c.args.bytes.now in
    let w = place_told (filed s) (at_soil s c.requires (let thirteen' : c.args.number ≡ 13 = let r = c.in_default.in_default-own.rest in last-number c.args.bytes.now c.requires (ne_eqb _ 1 r.0.0.0.0.0.0.0.0.1) (ne_eqb _ 2 r.0.0.0.0.0.0.0.1) (ne_eqb _ 3 r.0.0.0.0.0.0.1) (ne_eqb _ 4 r.0.0.0.0.0.1) (ne_eqb _ 5 r.0.0.0.0.1) (ne_eqb _ 6 r.0.0.0.1) (ne_eqb _ 7 r.0.0.1) (ne_eqb _ 12 r.0.1) (ne_eqb _ 14 r.1) in thirteen')) in record { formed = soil_formed s c.requires (let thirteen' : c.args.number ≡ 13 = let r = c.in_default.in_default-own.rest in last-number c.args.bytes.now c.requires (ne_eqb _ 1 r.0.0.0.0.0.0.0.0.1) (ne_eqb _ 2 r.0.0.0.0.0.0.0.1) (ne_eqb _ 3 r.0.0.0.0.0.0.1) (ne_eqb _ 4 r.0.0.0.0.0.1) (ne_eqb _ 5 r.0.0.0.0.1) (ne_eqb _ 6 r.0.0.0.1) (ne_eqb _ 7 r.0.0.1) (ne_eqb _ 12 r.0.1) (ne_eqb _ 14 r.1) in thirteen'); place_bound = (w.inside, w.kind_there) }

pub returns-in-1 : goal.returns-in-1
unfolding reason_of
returns-in-1 c = rw c.in-1.is refl

pub returns-in-2 : goal.returns-in-2
unfolding reason_of
returns-in-2 c = rw c.in-2.is c.bad_check.ensures

pub returns-in-3 : goal.returns-in-3
unfolding reason_of
returns-in-3 c = rw c.in-3.is c.bad_header.ensures

pub returns-in-4 : goal.returns-in-4
unfolding reason_of
returns-in-4 c = rw c.in-4.is c.bad_block.ensures

pub returns-in-5 : goal.returns-in-5
unfolding reason_of
returns-in-5 c = rw c.in-5.is c.id_below.ensures

pub returns-in-6 : goal.returns-in-6
unfolding reason_of
returns-in-6 c = rw c.in-6.is c.field_above.ensures

pub returns-in-7 : goal.returns-in-7
unfolding reason_of
returns-in-7 c = rw c.in-7.is c.fractions_above.ensures

pub returns-in-12 : goal.returns-in-12
unfolding reason_of
returns-in-12 c = rw c.in-12.is c.cleared_above.ensures

pub returns-in-14 : goal.returns-in-14
unfolding reason_of
returns-in-14 c = rw c.in-14.is c.scattered_trees.ensures

pub returns-in_default : goal.returns-in_default
unfolding reason_of
returns-in_default c = rw (let thirteen' : c.args.number ≡ 13 = let r = c.in_default.in_default-own.rest in last-number c.args.bytes.now c.requires (ne_eqb _ 1 r.0.0.0.0.0.0.0.0.1) (ne_eqb _ 2 r.0.0.0.0.0.0.0.1) (ne_eqb _ 3 r.0.0.0.0.0.0.1) (ne_eqb _ 4 r.0.0.0.0.0.1) (ne_eqb _ 5 r.0.0.0.0.1) (ne_eqb _ 6 r.0.0.0.1) (ne_eqb _ 7 r.0.0.1) (ne_eqb _ 12 r.0.1) (ne_eqb _ 14 r.1) in thirteen') c.soil_uneven.ensures
