-- "Edition 1 returns read as before." Assumes nothing.
--     as_before     up to 5,120 bytes, an edition 1 return is ruled as 01's rules rule it, and behind them those that add rows up
use Prim.Native.Nat.{ℕ, ◌+◌, ◌≤◌, ◌<◌}
use mathlib.Core.Path.{◌≡◌, refl, ap, ◌∙◌}
use mathlib.Core.Bool.{Bool, false, ◌||◌, or-true, or-false}
use mathlib.Core.List.{List, ◌++◌}
use native.Mathlib.Decide.{ℕ_discrete}
use native.Mathlib.Omega.{arith}
use borrow.Author.Tests.{lt-ltb, le-ltb, le-leb, eq-eqb, ne_eqb}
use lib.ListN.{length}
use Rattle.form.specs.First.{first}
use Rattle.form.specs.Ruling.{ruling}
use Rattle.form.specs.Edition.{last_kind}
use Rattle.form.specs.Block.{longest, blocks, kind_of, edition, bad_length, bad_check, bad_header, low_behind, ends_low, none_before, fourth_of_kind, bad_count, not_filled, over_filled, stray, bad_block, kind_falls}
use Rattle.form.specs.Records.{filed}
use Rattle.form.specs.Sums.{sum_rules}
use Rattle.form.specs.Verdict.{block_rules, form_rules, rules}
use Rattle.form.specs.FirstEdition.{bad_length01, bad_header01, wrong_end01, bad_block01, rules01}
use Rattle.std.specs.Prelude.{None}
use Rattle.form.proofs.Search.{first_same, first_none}
use Rattle.form.proofs.Order.{append_same, both-rule}
use Rattle.form.proofs.EachKind.{kinds_are}
use Rattle.form.proofs.SecondEdition.{records-kept, spared}
use Rattle.standing.proofs.Stand.{headed}

module _ (s : List ℕ) (one : edition s 0 ≡ 1) where
  header_same : (b : ℕ) → bad_header s b ≡ bad_header01 s b
  unfolding bad_header last_kind
  header_same b = go (ℕ_discrete (edition s b) 1)
    where
      go : Dec (edition s b ≡ 1) → bad_header s b ≡ bad_header01 s b
      go (yes e) = simp (e, one, or-false)
      go (no d) = simp (one, ne_eqb (edition s b) 1 d, or-true)

  -- where no kind is above 4
  module _ (b : ℕ) (l : b < blocks s) (low : kind_of s b ≤ 4) (next : b + 1 < blocks s → kind_of s (b + 1) ≤ 4) where
    ends_same : (f : Bool) → (f || low_behind s b || ends_low s b || none_before s b) ≡ (f || wrong_end01 s b)
    unfolding low_behind ends_low none_before
    ends_same f = go (ℕ_discrete (b + 1) (blocks s)) (ℕ_discrete (kind_of s b) 4)
      where
        go : Dec (b + 1 ≡ blocks s) → Dec (kind_of s b ≡ 4) → (f || low_behind s b || ends_low s b || none_before s b) ≡ (f || wrong_end01 s b)
        go (yes e) (yes k) = simp (le-ltb (b + 1) (blocks s) (omega arith), eq-eqb (b + 1) (blocks s) e, k, or-false)
        go (yes e) (no k) =
            simp (le-ltb (b + 1) (blocks s) (omega arith), eq-eqb (b + 1) (blocks s) e, ne_eqb (kind_of s b) 4 k, lt-ltb (kind_of s b) 4 (omega arith), le-ltb 4 (kind_of s b) low, or-false, or-true)
        go (no e) (yes k) =
            let m : b + 1 < blocks s = omega arith in
            simp (lt-ltb (b + 1) (blocks s) m, ne_eqb (b + 1) (blocks s) e, k, le-leb (kind_of s (b + 1)) 4 (next m), or-false, or-true)
        go (no e) (no k) =
            let m : b + 1 < blocks s = omega arith in
            simp (lt-ltb (b + 1) (blocks s) m, ne_eqb (b + 1) (blocks s) e, ne_eqb (kind_of s b) 4 k, le-ltb 4 (kind_of s b) low, or-false)

    block_same : bad_block s b ≡ bad_block01 s b
    unfolding bad_block
    block_same = ap (λ (x : Bool). x || fourth_of_kind s b || bad_count s b || not_filled s b || over_filled s b || stray s b) (ends_same (kind_falls s b))

  -- rule 3 kept: no kind is above 4
  low-kinds : ((b : ℕ) → b < blocks s → bad_header s b ≡ false) → (b : ℕ) → b < blocks s → kind_of s b ≤ 4
  unfolding last_kind
  low-kinds h b l = let g = headed s b (h b l) in rw (g.alike, one) at g.high

  pub form_as_before : length s ≤ 5120 → ruling (form_rules s) ≡ ruling (rules01 s)
  unfolding block_rules bad_length
  form_as_before short =
      both-rule 1 1 (λ p. bad_length s) (λ p. bad_length01 s) _ _ (first_same _ _ 1 (λ p l. lengths_same)) (λ e.
      both-rule 2 (blocks s) (bad_check s) (bad_check s) _ _ refl (λ e.
      both-rule 3 (blocks s) (bad_header s) (bad_header01 s) _ _ (first_same _ _ (blocks s) (λ b l. header_same b)) (λ none.
      both-rule 4 (blocks s) (bad_block s) (bad_block01 s) _ _ (first_same _ _ (blocks s) (blocks_same none)) (λ e. records-kept (edition s 0) (filed s) (spared (edition s 0) (filed s) (λ three. absurd (omega (arith, one, three))))))))
    where
      lengths_same : bad_length s ≡ bad_length01 s
      lengths_same = rw (le-ltb longest (length s) (omega (arith, kinds_are)), le-ltb 5120 (length s) short)

      blocks_same : first (bad_header01 s) (blocks s) ≡ None → (b : ℕ) → b < blocks s → bad_block s b ≡ bad_block01 s b
      blocks_same none b l =
          let low = low-kinds (λ a m. header_same a ∙ first_none (bad_header01 s) none a m) in
          block_same b l (low b l) (low (b + 1))

  pub as_before : length s ≤ 5120 → ruling (rules s) ≡ ruling (rules01 s ++ sum_rules (filed s))
  as_before short = append_same (form_rules s) (rules01 s) (sum_rules (filed s)) (form_as_before short)
