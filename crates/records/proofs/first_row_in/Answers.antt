use Prim.Native.Nat.{◌+◌, ◌*◌}
use mathlib.Core.Path.{◌≡◌, sym, ◌∙◌}
use Rattle.records.specs.Steps.{row_test}
use Rattle.form.proofs.Search.{first-zero, first_more, first_found, first_rest}
use Rattle.records.proofs.Rows.{tried, unused, spared}
use borrow.Author.Rules.{rules}
use native.Mathlib.Omega.{arith}
use Rattle.records.proofs.first_row_in.Goals as goal

pub returns-then-spares : goal.returns-then-spares
returns-then-spares c =
    let a = c.args in
    sym (spared a.bytes.now a.b a.number (rw (c.two_at.ensures.0, c.byte_at-kind.ensures.0) at (sym c.spares.ensures ∙ c.if-spares.true)))

pub loop-r-init : goal.loop-r-init
loop-r-init c = (search rules, first-zero _)

pub returns-then-breaks : goal.returns-then-breaks
returns-then-breaks c = sym (first_found _ _ 12 c.loop-r.invariant.1 ((let said' : let a = c.args in row_test a.number a.bytes.now (12 * a.b + c.loop-r.r) ≡ c.breaks.result = let a = c.args in let s = a.bytes.now in let r = c.loop-r.r in tried s a.b a.number r (omega arith) (omega (arith, c.used_in-used.ensures)) (rw c.byte_at-kind.ensures.0 at c.breaks.ensures) in said') ∙ c.if-breaks.true) (omega arith))

pub loop-r-preserved : goal.loop-r-preserved
loop-r-preserved c = (search rules, first_more _ _ c.loop-r.invariant.1 ((let said' : let a = c.args in row_test a.number a.bytes.now (12 * a.b + c.loop-r.r) ≡ c.breaks.result = let a = c.args in let s = a.bytes.now in let r = c.loop-r.r in tried s a.b a.number r (omega arith) (omega (arith, c.used_in-used.ensures)) (rw c.byte_at-kind.ensures.0 at c.breaks.ensures) in said') ∙ c.if-breaks.false))

pub returns : goal.returns
returns c =
    let a = c.args in
    sym (first_rest _ _ 12 c.loop-r.invariant.1 (λ k m l. unused a.bytes.now a.b a.number k l (omega (arith, c.used_in-used.ensures))))
