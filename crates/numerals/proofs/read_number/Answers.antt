use mathlib.Core.Path.{sym, ap, ◌∙◌}
use Prim.Native.Nat.{ℕ}
use mathlib.Core.List.{List}
use borrow.Author.Tests.{not-true, not-false}
use Rattle.numerals.specs.Numerals.{digits_in, read_parts}
use Rattle.numerals.proofs.Shapes.{all_from, no_number, by_parts}
use mathlib.Core.Bool.{not}
use Rattle.numerals.proofs.read_number.Goals as goal

pub returns-then-not-is_number : goal.returns-then-not-is_number
returns-then-not-is_number c =
    let a = c.args in
    no_number a.commas a.decimals a.field.now (sym c.is_number.ensures ∙ not-true _ (ap not c.if-not-is_number.true))

pub returns : goal.returns
returns c =
    let a = c.args in
    let l = a.field.now in
    c.read_parts.ensures
    ∙ ap (λ (x : List ℕ). read_parts a.decimals (digits_in l) (digits_in x)) (all_from c.decimals_start-start.result l ∙ c.decimals_start-start.ensures.1)
    ∙ sym (by_parts a.commas a.decimals l (sym c.is_number.ensures ∙ not-false _ (ap not c.if-not-is_number.false)))
