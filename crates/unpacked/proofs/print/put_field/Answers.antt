use mathlib.Core.Path.{sym, ap, ◌∙◌}
use lib.ListN.{get_or}
use Prim.Native.Nat.{ℕ}
use Rattle.numerals.specs.Written.{printed}
use Rattle.phrases.proofs.LineTexts.{as_text}
use Rattle.unpacked.proofs.Numbers.{field-unit, field-number}
use Rattle.unpacked.proofs.print.put_field.Goals as goal

pub returns-then-is_unit : goal.returns-then-is_unit
returns-then-is_unit c =
    let a = c.args in
    (as_text (field-unit a.kind a.row.now a.i (sym c.is_unit.ensures ∙ c.if-is_unit.true)) c.put_unit.ensures.0, c.put_unit.ensures.1)

pub returns : goal.returns
returns c =
    let a = c.args in
    let e = ap (λ (k : ℕ). printed k (get_or a.row.now a.i 0)) c.decimals.ensures.0 ∙ field-number a.kind a.row.now a.i (sym c.is_unit.ensures ∙ c.if-is_unit.false) in
    (as_text e c.put_printed.ensures.0, c.put_printed.ensures.1)
