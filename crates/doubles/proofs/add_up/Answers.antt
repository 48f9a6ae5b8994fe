use mathlib.Core.Path.{◌≡◌, sym, ◌∙◌}
use Prim.Native.Nat.{◌-◌, ◌≤◌}
use lib.Ieee.{of_bits, of_int}
use Rattle.form.specs.Verdict.{rows}
use Rattle.standing.proofs.Accepted.{formed}
use Rattle.standing.proofs.Rows.{Stands, conversion-row}
use Rattle.doubles.proofs.Walk.{counted, onward_start, onward-next, onward-end}
use borrow.Author.Rules.{rules}
use native.Mathlib.Omega.{arith}
use Rattle.doubles.proofs.add_up.Goals as goal

pub loop-i-init : goal.loop-i-init
unfolding of_bits of_int
loop-i-init c = (search rules, onward_start (rows 1 c.args.bytes.now) _)

pub parts_at-requires : goal.parts_at-requires
parts_at-requires c = (let row' : Stands c.args.bytes.now 1 c.loop-i.i c.row_start.result = conversion-row c.args.bytes.now c.args.c (formed _ _ c.requires) _ _ (omega arith) c.row_start.ensures in row').inside

pub loop-i-preserved : goal.loop-i-preserved
loop-i-preserved c =
    let l = c.loop-i in
    let s = c.args.bytes.now in
    let w = (let row' : Stands c.args.bytes.now 1 c.loop-i.i c.row_start.result = conversion-row c.args.bytes.now c.args.c (formed _ _ c.requires) _ _ (omega arith) c.row_start.ensures in row') in
    (search rules, onward-next (rows 1 s) l.i l.t w.there w.row l.invariant.1 c.parts_at.ensures c.plus-t.ensures)

pub returns : goal.returns
returns c =
    let l = c.loop-i in
    let s = c.args.bytes.now in
    sym (onward-end (rows 1 s) l.i l.t (omega (arith, counted s c.args.c (formed _ _ c.requires)))) ∙ l.invariant.1
