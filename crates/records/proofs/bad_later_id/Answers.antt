use Prim.Native.Nat.{ℕ, ◌+◌, ◌-◌, ◌*◌}
use mathlib.Core.Path.{◌≡◌, sym, ap, ap₂, ◌∙◌}
use borrow.Author.Tests.{not-true, not-false, le-leb, lt-leb}
use mathlib.Core.Bool.{false}
use native.Mathlib.Nat.{add-zero}
use lib.Dec.{leb}
use Rattle.form.specs.Bytes.{number}
use Rattle.form.specs.Records.{filed, has_id, bad_id}
use Rattle.form.proofs.Search.{first-zero, first_more, first_found, first_rest}
use Rattle.records.proofs.Rows.{later, no_later, no_ids}
use borrow.Author.Rules.{rules}
use native.Mathlib.Omega.{arith}
use mathlib.Core.Bool.{not}
use Rattle.records.proofs.bad_later_id.Goals as goal

pub returns-then-not-has_id : goal.returns-then-not-has_id
returns-then-not-has_id c =
    sym (no_ids c.args.bytes.now c.args.b c.requires.1
    (ap has_id (sym c.byte_at-kind.ensures.0) ∙ sym c.has_id.ensures ∙ not-true c.has_id.result (ap not c.if-not-has_id.true)))

pub loop-r-init : goal.loop-r-init
loop-r-init c =
    let a = c.args in
    let z : bad_id (filed a.bytes.now) (12 * a.b + 0) ≡ false = rw add-zero c.requires.1 in
    (search rules, search rules, first_more _ 0 (first-zero _) z, c.four_at-last.ensures ∙ ap (λ (c : ℕ). number 4 a.bytes.now c) (sym (add-zero (512 * a.b + 8))))

pub returns-then-id-last : goal.returns-then-id-last
returns-then-id-last c = sym (first_found _ _ 12 c.loop-r.invariant.2 ((let said' : bad_id (filed c.args.bytes.now) (12 * c.args.b + c.loop-r.r) ≡ leb c.four_at-id.result c.loop-r.last = let a = c.args in let l = c.loop-r in later a.bytes.now a.b l.r (omega arith) (omega arith) (omega (arith, c.used_in-used.ensures)) (ap has_id (sym c.byte_at-kind.ensures.0) ∙ sym c.has_id.ensures ∙ not-false c.has_id.result (ap not c.if-not-has_id.false)) (ap₂ (λ (m n : ℕ). leb m n) c.four_at-id.ensures l.invariant.3) in said') ∙ le-leb _ _ c.if-id-last.true) (omega arith))

pub loop-r-preserved : goal.loop-r-preserved
loop-r-preserved c =
    let l = c.loop-r in
    let r : l.r + 1 - 1 ≡ l.r = omega arith in
    (search rules, search rules, first_more _ _ l.invariant.2 ((let said' : bad_id (filed c.args.bytes.now) (12 * c.args.b + c.loop-r.r) ≡ leb c.four_at-id.result c.loop-r.last = let a = c.args in let l = c.loop-r in later a.bytes.now a.b l.r (omega arith) (omega arith) (omega (arith, c.used_in-used.ensures)) (ap has_id (sym c.byte_at-kind.ensures.0) ∙ sym c.has_id.ensures ∙ not-false c.has_id.result (ap not c.if-not-has_id.false)) (ap₂ (λ (m n : ℕ). leb m n) c.four_at-id.ensures l.invariant.3) in said') ∙ lt-leb _ _ c.if-id-last.false), rw r c.four_at-id.ensures)

pub returns : goal.returns
returns c =
    let a = c.args in
    let l = c.loop-r in
    sym (first_rest _ _ 12 l.invariant.2 (λ k m h. no_later a.bytes.now a.b k (omega arith) h (omega (arith, c.used_in-used.ensures))))
