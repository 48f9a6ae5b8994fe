use mathlib.Core.Path.{ap, subst, ◌∙◌}
use Prim.Native.Nat.{ℕ, ◌≤◌}
use Rattle.form.specs.Layout.{kinds}
use Rattle.columns.specs.Columns.{kind_named, kind_or_none}
use Rattle.cells.proofs.FieldLaws.{first-begins, cell_is}
use Rattle.texts.proofs.kind_in.Goals as goal

pub returns : goal.returns
returns c =
    let l = c.args.line.now in
    let k = c.args.sep in
    let cell = ap kind_named (cell_is k l 0 0 (first-begins k l) c.next_field-name.result c.next_field-name.ensures) in
    let e = c.kind_named.ensures in
    (e.0 ∙ ap kind_or_none cell, subst (λ (n : ℕ). n ≤ kinds) cell e.1)
