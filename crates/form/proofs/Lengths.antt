-- Laws of rule 1. Assumes nothing.
use Prim.Native.Nat.{ℕ, ◌%◌, ◌^◌, ◌≤◌, ◌<◌}
use mathlib.Core.Path.{◌≡◌, sym, ◌∙◌}
use mathlib.Core.Bool.{false, not}
use mathlib.Core.List.{List, [], ◌∷◌}
use native.Mathlib.Omega.{arith}
use borrow.Author.Tests.{ltb-false, eqb-false}
use lib.ListN.{length}
use lib.Dec.{ltb, eqb}
use Rattle.form.specs.Block.{longest, edition, bad_length}
use Rattle.form.specs.Ruling.{ruling}
use Rattle.form.specs.Records.{filed, record_rules}
use Rattle.form.specs.Verdict.{block_rules, form_rules}
use Rattle.form.specs.Refusals.{Clean}
use Rattle.form.proofs.Tests.{all_fail, same_of}
use Rattle.form.proofs.EachKind.{few_kinds}
use Rattle.form.proofs.Order.{AllKept, Kept, more, ruling_append, ruling-clean, or_clean}

-- a length that rule 1 lets pass
pub few_blocks : (s : List ℕ) → bad_length s ≡ false → length s ≤ longest
unfolding bad_length
few_blocks s e = ltb-false longest (length s) (all_fail (eqb (length s) 0) (ltb longest (length s) ∷ not (eqb (length s % 512) 0) ∷ []) e).1.0

pub some_bytes : (s : List ℕ) → bad_length s ≡ false → 8 ≤ length s
unfolding bad_length
some_bytes s e =
    let f = all_fail (eqb (length s) 0) (ltb longest (length s) ∷ not (eqb (length s % 512) 0) ∷ []) e in
    let z : length s ≡ 0 → ⊥ = eqb-false (length s) 0 f.0 in
    omega (arith, same_of (length s % 512) 0 f.1.1.0)

-- the first of some kept rules is kept
pub length-kept : (s : List ℕ) → AllKept (block_rules s) → bad_length s ≡ false
unfolding block_rules Kept
length-kept s (more h m) = h 0 (omega arith)

-- and so much that the code's counts have room for it
pub short : (s : List ℕ) → bad_length s ≡ false → length s < 2 ^ 24
short s e = omega (arith, few_blocks s e, few_kinds)

pub block_lengths : (s : List ℕ) → ruling (block_rules s) ≡ Clean → length s < 2 ^ 24
block_lengths s e = short s (length-kept s (ruling-clean e))

-- where all rules are kept, those of the blocks are
pub clean-length : (s : List ℕ) → ruling (form_rules s) ≡ Clean → (8 ≤ length s) × (length s < 2 ^ 24)
clean-length s e =
    let f = length-kept s (ruling-clean (or_clean _ _ (sym (ruling_append (block_rules s) (record_rules (edition s 0) (filed s))) ∙ e))) in
    (some_bytes s f, short s f)
