use mathlib.Core.Path.{refl, sym, ap₂, ◌∙◌}
use Prim.Native.Nat.{ℕ, ◌≤◌, ◌<◌}
use Rattle.heads.specs.Heads.{fault}
use Rattle.heads.specs.declared.Fault.TheVariants as F
use Rattle.heads.proofs.HeadLaws.{found_few}
use Rattle.std.specs.Prelude.{Err}
use Rattle.texts.specs.Texts.{count_of}
use Rattle.texts.specs.Steps.{counted_as}
use Rattle.texts.proofs.Checks.{below, too_many, other_fields, by_row}
use native.Mathlib.Omega.{arith}
use Rattle.texts.proofs.check_kind.Goals as goal

pub returns-then-kind-kept : goal.returns-then-kind-kept
returns-then-kind-kept c =
    let a = c.args in record { value = below a.sep a.kind a.n (counted_as a.kept) a.line.now (omega (arith, c.if-kind-kept.true)) refl; stored = refl }

pub returns-then-count_of-ge32 : goal.returns-then-count_of-ge32
returns-then-count_of-ge32 c =
    let a = c.args in
    let many : 32 ≤ count_of (counted_as a.kept) a.kind = omega (arith, c.count_of.ensures, c.if-count_of-ge32.true) in record { value = too_many a.sep a.kind a.n (counted_as a.kept) a.line.now c.if-kind-kept.false many refl; stored = refl }

pub overflow_cast-fault-then-fields-due : goal.overflow_cast-fault-then-fields-due
overflow_cast-fault-then-fields-due c =
    omega (arith, c.found-fields.ensures, found_few c.args.sep c.args.line.now, c.requires.3)

pub returns-then-fields-due : goal.returns-then-fields-due
returns-then-fields-due c =
    let a = c.args in
    let few : count_of (counted_as a.kept) a.kind < 32 = omega (arith, c.count_of.ensures, c.if-count_of-ge32.false) in
    let due = c.numbers-due.ensures.0 in
    let said = ap₂ (λ (d f : ℕ). Err (fault a.n (F.Fields d f))) due c.found-fields.ensures in record { value = other_fields a.sep a.kind a.n (counted_as a.kept) a.line.now c.if-kind-kept.false few (λ z. c.if-fields-due.true (c.found-fields.ensures ∙ z ∙ sym due)) said; stored = refl }

pub returns : goal.returns
returns c =
    let a = c.args in
    let few : count_of (counted_as a.kept) a.kind < 32 = omega (arith, c.count_of.ensures, c.if-count_of-ge32.false) in
    let all = sym c.found-fields.ensures ∙ c.if-fields-due.false ∙ c.numbers-due.ensures.0 in record { value = by_row a.sep a.kind a.n (counted_as a.kept) a.line.now c.if-kind-kept.false few all c.check_row.ensures.value; stored = c.check_row.ensures.stored }
