use Prim.Native.Nat.{ℕ}
use mathlib.Core.Path.{◌≡◌, refl, sym, ap, ◌∙◌}
use mathlib.Core.Bool.{true, false}
use native.Mathlib.Omega.{arith}
use borrow.Author.Tests.{le-leb, lt-leb}
use Rattle.form.specs.Block.{kind_falls, blocks_below, earlier, fourth_of_kind, bad_count, not_filled, over_filled}
use Rattle.faults.specs.Faults.{ends_wrong, fault_of}
use Rattle.faults.proofs.Blocks.{has-before, has-next}
use Rattle.faults.proofs.first_fault.Goals as goal

pub overflow_sub-b : goal.overflow_sub-b
overflow_sub-b c = let a = c.args in has-before a.bytes.now a.b (sym c.kind_falls.ensures ∙ c.if-kind_falls.true)

pub returns-then-kind_falls : goal.returns-then-kind_falls
unfolding fault_of
returns-then-kind_falls c =
    rw (sym c.kind_falls.ensures ∙ c.if-kind_falls.true, c.byte_at.ensures.0) refl

pub returns-then-ends_wrong : goal.returns-then-ends_wrong
unfolding fault_of
returns-then-ends_wrong c =
    rw ((let not_order' : kind_falls c.args.bytes.now c.args.b ≡ false = sym c.kind_falls.ensures ∙ c.if-kind_falls.false in not_order'), sym c.ends_wrong.ensures ∙ c.if-ends_wrong.true) refl

pub returns-then-earlier-ge3 : goal.returns-then-earlier-ge3
unfolding fault_of
returns-then-earlier-ge3 c =
    rw ((let not_order' : kind_falls c.args.bytes.now c.args.b ≡ false = sym c.kind_falls.ensures ∙ c.if-kind_falls.false in not_order'), (let not_end' : ends_wrong c.args.bytes.now c.args.b ≡ false = sym c.ends_wrong.ensures ∙ c.if-ends_wrong.false in not_end'), le-leb 3 _ (rw (let earlier_is' : c.blocks_below-earlier.result ≡ earlier c.args.bytes.now c.args.b = let a = c.args in c.blocks_below-earlier.ensures ∙ ap (λ (k : ℕ). blocks_below k a.bytes.now a.b) c.byte_at-2.ensures.0 in earlier_is') at c.if-earlier-ge3.true)) refl

pub returns-then-bad_count : goal.returns-then-bad_count
unfolding fault_of
returns-then-bad_count c =
    rw ((let not_order' : kind_falls c.args.bytes.now c.args.b ≡ false = sym c.kind_falls.ensures ∙ c.if-kind_falls.false in not_order'), (let not_end' : ends_wrong c.args.bytes.now c.args.b ≡ false = sym c.ends_wrong.ensures ∙ c.if-ends_wrong.false in not_end'), (let not_fourth' : fourth_of_kind c.args.bytes.now c.args.b ≡ false = lt-leb 3 _ (rw (let earlier_is' : c.blocks_below-earlier.result ≡ earlier c.args.bytes.now c.args.b = let a = c.args in c.blocks_below-earlier.ensures ∙ ap (λ (k : ℕ). blocks_below k a.bytes.now a.b) c.byte_at-2.ensures.0 in earlier_is') at c.if-earlier-ge3.false) in not_fourth'), sym c.bad_count.ensures ∙ c.if-bad_count.true) refl

pub byte_at-requires-then-not_filled : goal.byte_at-requires-then-not_filled
byte_at-requires-then-not_filled c =
    let a = c.args in
    let h = has-next a.bytes.now a.b (sym c.not_filled.ensures ∙ c.if-not_filled.true) in
    omega (arith, h)

pub returns-then-not_filled : goal.returns-then-not_filled
unfolding fault_of
returns-then-not_filled c =
    rw ((let not_order' : kind_falls c.args.bytes.now c.args.b ≡ false = sym c.kind_falls.ensures ∙ c.if-kind_falls.false in not_order'), (let not_end' : ends_wrong c.args.bytes.now c.args.b ≡ false = sym c.ends_wrong.ensures ∙ c.if-ends_wrong.false in not_end'), (let not_fourth' : fourth_of_kind c.args.bytes.now c.args.b ≡ false = lt-leb 3 _ (rw (let earlier_is' : c.blocks_below-earlier.result ≡ earlier c.args.bytes.now c.args.b = let a = c.args in c.blocks_below-earlier.ensures ∙ ap (λ (k : ℕ). blocks_below k a.bytes.now a.b) c.byte_at-2.ensures.0 in earlier_is') at c.if-earlier-ge3.false) in not_fourth'), (let not_count' : bad_count c.args.bytes.now c.args.b ≡ false = sym c.bad_count.ensures ∙ c.if-bad_count.false in not_count'), sym c.not_filled.ensures ∙ c.if-not_filled.true, c.byte_at-then-not_filled.ensures.0) refl

pub returns-then-over_filled : goal.returns-then-over_filled
unfolding fault_of
returns-then-over_filled c =
    rw ((let not_order' : kind_falls c.args.bytes.now c.args.b ≡ false = sym c.kind_falls.ensures ∙ c.if-kind_falls.false in not_order'), (let not_end' : ends_wrong c.args.bytes.now c.args.b ≡ false = sym c.ends_wrong.ensures ∙ c.if-ends_wrong.false in not_end'), (let not_fourth' : fourth_of_kind c.args.bytes.now c.args.b ≡ false = lt-leb 3 _ (rw (let earlier_is' : c.blocks_below-earlier.result ≡ earlier c.args.bytes.now c.args.b = let a = c.args in c.blocks_below-earlier.ensures ∙ ap (λ (k : ℕ). blocks_below k a.bytes.now a.b) c.byte_at-2.ensures.0 in earlier_is') at c.if-earlier-ge3.false) in not_fourth'), (let not_count' : bad_count c.args.bytes.now c.args.b ≡ false = sym c.bad_count.ensures ∙ c.if-bad_count.false in not_count'), (let not_unfilled' : not_filled c.args.bytes.now c.args.b ≡ false = sym c.not_filled.ensures ∙ c.if-not_filled.false in not_unfilled'), sym (let over_is' : c.over_filled.result ≡ over_filled c.args.bytes.now c.args.b = rw (← (let earlier_is' : c.blocks_below-earlier.result ≡ earlier c.args.bytes.now c.args.b = let a = c.args in c.blocks_below-earlier.ensures ∙ ap (λ (k : ℕ). blocks_below k a.bytes.now a.b) c.byte_at-2.ensures.0 in earlier_is'), ← c.byte_at-3.ensures.0) c.over_filled.ensures in over_is') ∙ c.if-over_filled.true) refl

pub returns : goal.returns
unfolding fault_of
returns c =
    rw ((let not_order' : kind_falls c.args.bytes.now c.args.b ≡ false = sym c.kind_falls.ensures ∙ c.if-kind_falls.false in not_order'), (let not_end' : ends_wrong c.args.bytes.now c.args.b ≡ false = sym c.ends_wrong.ensures ∙ c.if-ends_wrong.false in not_end'), (let not_fourth' : fourth_of_kind c.args.bytes.now c.args.b ≡ false = lt-leb 3 _ (rw (let earlier_is' : c.blocks_below-earlier.result ≡ earlier c.args.bytes.now c.args.b = let a = c.args in c.blocks_below-earlier.ensures ∙ ap (λ (k : ℕ). blocks_below k a.bytes.now a.b) c.byte_at-2.ensures.0 in earlier_is') at c.if-earlier-ge3.false) in not_fourth'), (let not_count' : bad_count c.args.bytes.now c.args.b ≡ false = sym c.bad_count.ensures ∙ c.if-bad_count.false in not_count'), (let not_unfilled' : not_filled c.args.bytes.now c.args.b ≡ false = sym c.not_filled.ensures ∙ c.if-not_filled.false in not_unfilled'), sym (let over_is' : c.over_filled.result ≡ over_filled c.args.bytes.now c.args.b = rw (← (let earlier_is' : c.blocks_below-earlier.result ≡ earlier c.args.bytes.now c.args.b = let a = c.args in c.blocks_below-earlier.ensures ∙ ap (λ (k : ℕ). blocks_below k a.bytes.now a.b) c.byte_at-2.ensures.0 in earlier_is'), ← c.byte_at-3.ensures.0) c.over_filled.ensures in over_is') ∙ c.if-over_filled.false) c.first_stray.ensures
