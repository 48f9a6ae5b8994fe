use Prim.Native.Nat.{ℕ, ◌+◌, ◌-◌, ◌*◌, ◌≤◌, ◌<◌}
use mathlib.Core.Path.{ap}
use lib.ListN.{length}
use Rattle.form.specs.Layout.{kinds, numbers_of}
use Rattle.form.proofs.EachKind.{kinds_are}
use Rattle.filing.specs.Lists.{blocks_of}
use Rattle.clashes.proofs.Finding.{find_none, list-end, row_inside, found, find_more, find_all}
use native.Mathlib.Omega.{arith}
use Rattle.clashes.proofs.find_row.Goals as goal

pub loop-k-init : goal.loop-k-init
loop-k-init c = (kinds_are, find_none _ _ _)

pub overflow_add-result-then-p-next : goal.overflow_add-result-then-p-next
overflow_add-result-then-p-next c = rw c.numbers.ensures.0 (omega (arith, (let inner' : let v = c.loop-k in numbers_of (v.k + 1) * (c.args.place - v.start) + numbers_of (v.k + 1) ≤ c.length_at-n.result = row_inside c.requires.good c.loop-k.invariant.1 (let in_kinds' : c.loop-k.k < kinds = omega arith in in_kinds') c.length_at-n.ensures.0 c.requires.place_value (let near' : let v = c.loop-k in c.args.place - v.start < 12 * blocks_of (v.k + 1) c.length_at-n.result = omega (arith, c.blocks_of.ensures.0) in near') in inner'), (let part' : c.loop-k.from + c.length_at-n.result ≤ length c.args.area.now = list-end c.requires.good c.loop-k.invariant.1 (let in_kinds' : c.loop-k.k < kinds = omega arith in in_kinds') c.length_at-n.ensures.0 in part')))

pub returns-then-p-next : goal.returns-then-p-next
returns-then-p-next c =
    found c.requires.good c.loop-k.invariant.1 (let in_kinds' : c.loop-k.k < kinds = omega arith in in_kinds') c.length_at-n.ensures.0 c.requires.place_value (let near' : let v = c.loop-k in c.args.place - v.start < 12 * blocks_of (v.k + 1) c.length_at-n.result = omega (arith, c.blocks_of.ensures.0) in near') c.numbers.ensures.0

pub overflow_add-from : goal.overflow_add-from
overflow_add-from c = omega (arith, (let part' : c.loop-k.from + c.length_at-n.result ≤ length c.args.area.now = list-end c.requires.good c.loop-k.invariant.1 (let in_kinds' : c.loop-k.k < kinds = omega arith in in_kinds') c.length_at-n.ensures.0 in part'))

pub loop-k-preserved : goal.loop-k-preserved
loop-k-preserved c =
    let v = c.loop-k in
    let next = ap (λ (x : ℕ). v.start + 12 * x) c.blocks_of.ensures.0 in (
      v.invariant.0,
      find_more c.requires.good v.invariant.1 (let in_kinds' : c.loop-k.k < kinds = omega arith in in_kinds') c.length_at-n.ensures.0 next c.if-p-next.false c.count-before.ensures.0,
    )

pub returns : goal.returns
returns c =
    let v = c.loop-k.invariant in
    absurd (find_all c.requires.good v.1 (omega arith) c.requires.place_value)
