use mathlib.Core.Path.{sym, ◌∙◌}
use borrow.Author.Tests.{not-true, not-false}
use Rattle.numerals.proofs.Counting.{digits-next, digits-stop, digits-end, digit_above}
use Rattle.numerals.proofs.Capped.{digit_added, all_added}
use borrow.Author.Rules.{rules}
use native.Mathlib.Omega.{arith}
use mathlib.Core.Path.{ap}
use mathlib.Core.Bool.{not}
use Rattle.numerals.proofs.add_digits.Goals as goal

pub returns-then-not-is_digit : goal.returns-then-not-is_digit
returns-then-not-is_digit c =
    let none = sym c.is_digit.ensures ∙ not-true _ (ap not c.if-not-is_digit.true) in
    let stop = digits-stop c.args.text.now c.loop-k.k (omega arith) none in
    (all_added stop c.loop-k.invariant.1 c.loop-k.invariant.2, c.loop-k.invariant.1)

pub digit_value-requires : goal.digit_value-requires
digit_value-requires c = digit_above _ (sym c.is_digit.ensures ∙ not-false _ (ap not c.if-not-is_digit.false))

pub loop-k-preserved : goal.loop-k-preserved
loop-k-preserved c =
    let text = c.args.text.now in
    let next = digits-next text c.loop-k.k (omega arith) (sym c.is_digit.ensures ∙ not-false _ (ap not c.if-not-is_digit.false)) in
    (search rules, c.cap-value.ensures.1, digit_added _ next c.digit_value.ensures.0 c.cap-value.ensures.0 ∙ c.loop-k.invariant.2)

pub returns : goal.returns
returns c =
    (all_added (digits-end c.args.text.now c.loop-k.k (omega arith)) c.loop-k.invariant.1 c.loop-k.invariant.2, c.loop-k.invariant.1)
