use Prim.Native.Nat.{ℕ, ◌+◌, ◌*◌, ◌≤◌, ◌<◌}
use mathlib.Core.Path.{ap}
use lib.ListN.{length}
use Rattle.form.specs.Layout.{kinds}
use Rattle.form.proofs.EachKind.{kinds_are}
use Rattle.lists.proofs.Scan.{scan_none, part_in, scan_found, scan_more, scan_all}
use borrow.Author.Rules.{rules}
use native.Mathlib.Omega.{arith}
use Rattle.lists.proofs.first_broken.Goals as goal

pub loop-k-init : goal.loop-k-init
loop-k-init c = (kinds_are, scan_none _ _ _ _)

pub overflow_add-end : goal.overflow_add-end
overflow_add-end c = omega (arith, (let inside' : let v = c.loop-k in let a = c.args in (v.k < kinds) × (v.from + c.length_at-n.result ≤ length a.area.now) = let k : c.loop-k.k < kinds = search rules in (k, part_in c.args.area.now _ c.requires c.loop-k.invariant.1.at k c.length_at-n.ensures.0) in inside').1)

pub offset_bounds-area-from : goal.offset_bounds-area-from
offset_bounds-area-from c = let i = (let inside' : let v = c.loop-k in let a = c.args in (v.k < kinds) × (v.from + c.length_at-n.result ≤ length a.area.now) = let k : c.loop-k.k < kinds = search rules in (k, part_in c.args.area.now _ c.requires c.loop-k.invariant.1.at k c.length_at-n.ensures.0) in inside') in search rules

pub slice_bounds-first_in-end : goal.slice_bounds-first_in-end
slice_bounds-first_in-end c = let i = (let inside' : let v = c.loop-k in let a = c.args in (v.k < kinds) × (v.from + c.length_at-n.result ≤ length a.area.now) = let k : c.loop-k.k < kinds = search rules in (k, part_in c.args.area.now _ c.requires c.loop-k.invariant.1.at k c.length_at-n.ensures.0) in inside') in search rules

pub returns-in-Some : goal.returns-in-Some
returns-in-Some c =
    scan_found c.requires c.loop-k.invariant.1 (let inside' : let v = c.loop-k in let a = c.args in (v.k < kinds) × (v.from + c.length_at-n.result ≤ length a.area.now) = let k : c.loop-k.k < kinds = search rules in (k, part_in c.args.area.now _ c.requires c.loop-k.invariant.1.at k c.length_at-n.ensures.0) in inside').0 c.length_at-n.ensures.0
    c.first_in.ensures c.in-Some.is

pub loop-k-preserved : goal.loop-k-preserved
loop-k-preserved c =
    let v = c.loop-k in (
      v.invariant.0,
      scan_more c.requires v.invariant.1 (let inside' : let v = c.loop-k in let a = c.args in (v.k < kinds) × (v.from + c.length_at-n.result ≤ length a.area.now) = let k : c.loop-k.k < kinds = search rules in (k, part_in c.args.area.now _ c.requires c.loop-k.invariant.1.at k c.length_at-n.ensures.0) in inside').0 c.length_at-n.ensures.0
          c.first_in.ensures c.in_default.is (ap (λ (x : ℕ). 12 * x) c.blocks_of.ensures.0),
    )

pub returns : goal.returns
returns c = scan_all c.requires c.loop-k.invariant.1 (search rules)
