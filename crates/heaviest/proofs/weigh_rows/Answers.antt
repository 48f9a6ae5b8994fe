use Prim.Native.Nat.{◌-◌, ◌≤◌}
use mathlib.Core.Path.{◌≡◌, sym, ◌∙◌}
use lib.Dec.{lit≤}
use Rattle.form.specs.Verdict.{rows}
use Rattle.form.proofs.EachKind.{one_kind}
use Rattle.standing.proofs.Accepted.{rows-length, counted}
use Rattle.standing.proofs.Rows.{Stands, conversion-row, kept}
use Rattle.heaviest.proofs.Walk.{start, turn, end}
use borrow.Author.Rules.{rules}
use native.Mathlib.Omega.{arith}
use Rattle.heaviest.proofs.weigh_rows.Goals as goal

pub loop-i-init : goal.loop-i-init
loop-i-init c = (search rules, sym (start (rows 1 c.args.bytes.now)))

pub four_at-requires : goal.four_at-requires
four_at-requires c = let w = (let row' : Stands c.args.bytes.now 1 c.loop-i.i c.row_start-at.result = conversion-row c.args.bytes.now c.args.c c.requires _ _ (search rules) c.row_start-at.ensures in row') in omega arith

pub parts_at-requires : goal.parts_at-requires
parts_at-requires c =
    let w = (let row' : Stands c.args.bytes.now 1 c.loop-i.i c.row_start-at.result = conversion-row c.args.bytes.now c.args.c c.requires _ _ (search rules) c.row_start-at.ensures in row') in record { at_in_bounds = w.inside; at_value = rw (← w.row) (kept c.args.bytes.now c.args.c c.requires 1 c.loop-i.i (lit≤ tt) one_kind w.there) }

pub loop-i-preserved : goal.loop-i-preserved
loop-i-preserved c =
    (search rules, turn (let row' : Stands c.args.bytes.now 1 c.loop-i.i c.row_start-at.result = conversion-row c.args.bytes.now c.args.c c.requires _ _ (search rules) c.row_start-at.ensures in row') c.four_at.ensures c.parts_at.ensures c.loop-i.invariant.1 c.weigh-best.ensures)

pub returns : goal.returns
returns c =
    let b = c.args.bytes.now in
    c.loop-i.invariant.1
    ∙ end (rows 1 b) c.loop-i.i (omega (arith, rows-length b c.args.c c.requires 1, counted b c.args.c c.requires 0 one_kind))
