use mathlib.Core.Path.{◌∙◌}
use native.Mathlib.Omega.{arith}
use Rattle.cells.proofs.FieldLaws.{none_seen, full_seen, empty_seen, all_seen}
use Rattle.cells.proofs.found.Goals as goal

pub loop-at-init : goal.loop-at-init
loop-at-init c = let p = c.past-at.ensures in none_seen _ _ _ (omega (arith, p.0)) (p.1 ∙ c.end_of-first.ensures.rest)

pub loop-at-preserved-then-field : goal.loop-at-preserved-then-field
loop-at-preserved-then-field c =
    full_seen _ _ _ _ _ c.loop-at.invariant c.loop-at-test.true _ c.next_field-field.ensures c.if-field.true

pub loop-at-preserved : goal.loop-at-preserved
loop-at-preserved c =
    empty_seen _ _ _ _ _ c.loop-at.invariant c.loop-at-test.true _ c.next_field-field.ensures c.if-field.false

pub returns : goal.returns
returns c = all_seen _ _ _ _ _ c.loop-at-test.false c.loop-at.invariant
