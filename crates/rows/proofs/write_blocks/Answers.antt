use Prim.Native.Nat.{◌+◌, ◌≤◌, ◌<◌}
use lib.ListN.{length}
use Rattle.form.specs.Layout.{kinds}
use Rattle.form.proofs.EachKind.{kinds_are}
use Rattle.rows.proofs.Return.{storing_none, storing_room, storing_more, storing_all}
use Rattle.lists.proofs.Scan.{part_in}
use borrow.Author.Rules.{rules}
use native.Mathlib.Omega.{arith}
use Rattle.rows.proofs.write_blocks.Goals as goal

pub loop-k-init : goal.loop-k-init
loop-k-init c =
    let a = c.args in
    (kinds_are, storing_none a.edition a.n a.lengths.now a.rows.now c.requires.good c.requires.n_value.0)

pub overflow_add-end : goal.overflow_add-end
overflow_add-end c = omega (arith, (let inside' : let v = c.loop-k in let a = c.args in (v.k < kinds) × (v.from + c.length_at-m.result ≤ length a.rows.now) = let v = c.loop-k in let h : v.k < kinds = search rules in (h, part_in c.args.rows.now v.k c.requires.good v.invariant.1.at h c.length_at-m.ensures.0) in inside').1)

pub offset_bounds-rows-from : goal.offset_bounds-rows-from
offset_bounds-rows-from c = let i = (let inside' : let v = c.loop-k in let a = c.args in (v.k < kinds) × (v.from + c.length_at-m.result ≤ length a.rows.now) = let v = c.loop-k in let h : v.k < kinds = search rules in (h, part_in c.args.rows.now v.k c.requires.good v.invariant.1.at h c.length_at-m.ensures.0) in inside') in search rules

pub slice_bounds-write_kind-end : goal.slice_bounds-write_kind-end
slice_bounds-write_kind-end c = let i = (let inside' : let v = c.loop-k in let a = c.args in (v.k < kinds) × (v.from + c.length_at-m.result ≤ length a.rows.now) = let v = c.loop-k in let h : v.k < kinds = search rules in (h, part_in c.args.rows.now v.k c.requires.good v.invariant.1.at h c.length_at-m.ensures.0) in inside') in search rules

pub write_kind-requires : goal.write_kind-requires
write_kind-requires c =
    let i = (let inside' : let v = c.loop-k in let a = c.args in (v.k < kinds) × (v.from + c.length_at-m.result ≤ length a.rows.now) = let v = c.loop-k in let h : v.k < kinds = search rules in (h, part_in c.args.rows.now v.k c.requires.good v.invariant.1.at h c.length_at-m.ensures.0) in inside') in
    let v = c.loop-k in
    let a = c.args in record { kind_nonzero = (search rules, search rules); rows_bound = (storing_room a.edition a.n a.lengths.now a.rows.now c.requires.good c.requires.n_value.0 v.invariant.1 i.0 c.length_at-m.ensures.0, search rules, search rules) }

pub loop-k-preserved : goal.loop-k-preserved
loop-k-preserved c =
    let v = c.loop-k in
    let a = c.args in (
      v.invariant.0,
      storing_more a.edition a.n a.lengths.now a.rows.now c.requires.good c.requires.n_value.0 v.invariant.1 (let inside' : let v = c.loop-k in let a = c.args in (v.k < kinds) × (v.from + c.length_at-m.result ≤ length a.rows.now) = let v = c.loop-k in let h : v.k < kinds = search rules in (h, part_in c.args.rows.now v.k c.requires.good v.invariant.1.at h c.length_at-m.ensures.0) in inside').0 c.length_at-m.ensures.0
          c.write_kind.ensures c.blocks_of-start.ensures.0,
    )

pub returns : goal.returns
returns c =
    let a = c.args in
    storing_all a.edition a.n a.lengths.now a.rows.now c.requires.good c.requires.n_value.0 c.loop-k.invariant.1 (search rules)
