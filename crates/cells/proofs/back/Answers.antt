use Rattle.std.proofs.Common.{ℕ, ◌≡◌, ◌+◌, ◌-◌, ◌≤◌, sym, ap, subst, ◌∙◌, arith}
use mathlib.Core.Bool.{not}
use borrow.Author.Tests.{not-true, not-false}
use Rattle.cells.specs.Lines.{part}
use Rattle.cells.specs.Cells.{end_off}
use Rattle.cells.proofs.Cleaning.{back_end, back_here, back_more}
use Rattle.cells.proofs.back.Goals as goal

pub returns-then-not-is_blank : goal.returns-then-not-is_blank
returns-then-not-is_blank c =
    let a = c.args in
    let behind : c.loop-k.k ≡ c.loop-k.k - 1 + 1 = omega (arith, c.loop-k-test.true) in
    subst (λ (k : ℕ). (a.from ≤ k) × (k ≤ a.to) × (part a.from k a.line.now ≡ end_off a.sep (part a.from a.to a.line.now))) behind
    (back_here _ _ _ _ _ c.requires.1 c.loop-k.invariant c.loop-k-test.true (sym c.is_blank.ensures ∙ not-true _ (ap not c.if-not-is_blank.true)))

pub loop-k-preserved : goal.loop-k-preserved
loop-k-preserved c =
    back_more _ _ _ _ _ c.requires.1 c.loop-k.invariant c.loop-k-test.true (sym c.is_blank.ensures ∙ not-false _ (ap not c.if-not-is_blank.false))

pub returns : goal.returns
returns c =
    let a = c.args in
    let at_end : c.loop-k.k ≡ a.from = omega (arith, c.loop-k.invariant.ordered, c.loop-k-test.false) in
    subst (λ (k : ℕ). (a.from ≤ k) × (k ≤ a.to) × (part a.from k a.line.now ≡ end_off a.sep (part a.from a.to a.line.now))) at_end
    (back_end _ _ _ _ _ c.requires.1 c.loop-k.invariant c.loop-k-test.false)
