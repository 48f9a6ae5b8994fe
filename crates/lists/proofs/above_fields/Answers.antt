use Prim.Native.Nat.{◌<◌}
use mathlib.Core.Path.{sym, ap, ◌∙◌}
use mathlib.Core.Bool.{Bool, ◌||◌, or-false}
use Rattle.form.specs.Layout.{layout, numbers_of}
use Rattle.form.specs.declared.Field.{Field}
use Rattle.filing.specs.Lists.{row_of}
use Rattle.lists.proofs.Numbers.{above-next, above-end}
use borrow.Author.Rules.{rules}
use native.Mathlib.Omega.{arith}
use Rattle.lists.proofs.above_fields.Goals as goal

pub loop-i-preserved : goal.loop-i-preserved
loop-i-preserved c =
    let a = c.args in
    let v = c.loop-i in (
      search rules,
      above-next a.kind a.rows.now a.j v.i (let counted' : c.loop-i.i < numbers_of c.args.kind = rw c.numbers-n.ensures.0 at c.loop-i-test.true in counted') c.numbers-n.ensures.0 (ap (λ (f : Field). f.limit) c.field-f.ensures) v.above v.invariant.1,
    )

pub returns : goal.returns
returns c =
    let a = c.args in
    let v = c.loop-i in
    sym (or-false v.above)
    ∙ ap (λ (b : Bool). v.above || b) (sym (above-end (layout a.kind) (row_of a.kind a.rows.now a.j) v.i (omega arith)))
    ∙ v.invariant.1
