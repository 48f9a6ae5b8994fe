use Prim.Native.Nat.{◌+◌}
use mathlib.Core.Path.{sym, ap, ◌∙◌}
use borrow.Author.Tests.{not-true, not-false}
use Rattle.numerals.specs.Numerals.{only_digits}
use Rattle.numerals.proofs.Shapes.{all_from, no_digits, ended, no_mark, marked}
use mathlib.Core.Bool.{not}
use Rattle.numerals.proofs.is_number.Goals as goal

pub returns-then-whole-field : goal.returns-then-whole-field
returns-then-whole-field c =
    ended _ c.args.field.now _ c.count_digits-whole.ensures.0 c.if-whole-field.true

pub returns-then-whole-eq0 : goal.returns-then-whole-eq0
returns-then-whole-eq0 c =
    no_digits _ c.args.field.now _ c.count_digits-whole.ensures.0 c.if-whole-eq0.true

pub returns-then-not-is_mark : goal.returns-then-not-is_mark
returns-then-not-is_mark c =
    let n = c.count_digits-whole in
    let mark = sym c.is_mark.ensures ∙ not-true _ (ap not c.if-not-is_mark.true) in
    let field = c.args.field.now in
    no_mark _ field _ n.ensures.0 c.if-whole-eq0.false n.ensures.1 c.if-whole-field.false mark

pub returns : goal.returns
returns c =
    let field = c.args.field.now in
    let n = c.count_digits-whole in
    let mark = sym c.is_mark.ensures ∙ not-false _ (ap not c.if-not-is_mark.false) in
    let only = c.only_digits.ensures ∙ ap only_digits (all_from (n.result + 1) field) in
    marked _ field _ n.ensures.0 c.if-whole-eq0.false n.ensures.1 c.if-whole-field.false mark only
