use Prim.Native.Nat.{ℕ, ◌≤◌}
use native.Mathlib.Omega.{arith}
use Rattle.cells.specs.Lines.{part}
use Rattle.cells.specs.Cells.{front_off}
use mathlib.Core.Path.{◌≡◌, sym, subst, ◌∙◌}
use borrow.Author.Tests.{not-true, not-false}
use Rattle.cells.proofs.Cleaning.{front-end, front_here, front-more}
use mathlib.Core.Path.{ap}
use mathlib.Core.Bool.{not}
use Rattle.cells.proofs.front.Goals as goal

pub returns-then-not-is_blank : goal.returns-then-not-is_blank
returns-then-not-is_blank c =
    front_here _ _ _ _ _ c.requires.1 c.loop-k.invariant c.loop-k-test.true (sym c.is_blank.ensures ∙ not-true _ (ap not c.if-not-is_blank.true))

pub loop-k-preserved : goal.loop-k-preserved
loop-k-preserved c =
    front-more _ _ _ _ _ c.requires.1 c.loop-k.invariant c.loop-k-test.true (sym c.is_blank.ensures ∙ not-false _ (ap not c.if-not-is_blank.false))

pub returns : goal.returns
returns c =
    let a = c.args in
    let at_end : c.loop-k.k ≡ a.to = omega (arith, c.loop-k.invariant.inside, c.loop-k-test.false) in
    subst (λ (k : ℕ). (a.from ≤ k) × (k ≤ a.to) × (part k a.to a.line.now ≡ front_off a.sep (part a.from a.to a.line.now))) at_end
    (front-end _ _ _ _ _ c.requires.1 c.loop-k.invariant c.loop-k-test.false)
