use Prim.Native.Nat.{ℕ, ◌+◌, ◌≤◌}
use mathlib.Core.Path.{sym, ap, ap₂, ◌∙◌}
use Rattle.form.specs.Standing.{blocks_for}
use Rattle.form.proofs.Counting.{first_one, first_next}
use borrow.Author.Rules.{rules}
use native.Mathlib.Omega.{arith}
use Rattle.form.proofs.first_block.Goals as goal

pub loop-k-init : goal.loop-k-init
loop-k-init c = (search rules, search rules, search rules, sym (first_one _))

pub loop-k-preserved : goal.loop-k-preserved
loop-k-preserved c =
    let v = c.loop-k in
    let n = c.args.c in (
      search rules,
      search rules,
      omega (arith, (let here' : c.count_of.result ≤ 32 = rw c.count_of.ensures (c.requires.2 c.loop-k.k) in here'), c.blocks_for-first.ensures),
      ap₂ (λ (x y : ℕ). x + y) v.invariant.3 (c.blocks_for-first.ensures ∙ ap blocks_for c.count_of.ensures) ∙ sym (first_next v.k n v.invariant.0),
    )
