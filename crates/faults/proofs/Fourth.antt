-- No block is the fourth of its kind before another fault of the sentence has come. Assumes nothing.
--     never_fourth    of a block whose earlier blocks are all good
use Prim.Native.Nat.{ℕ, zero, suc, ◌+◌, ◌-◌, ◌<◌, ◌≤◌}
use mathlib.Core.Path.{◌≡◌, refl, sym, ap, ◌∙◌}
use mathlib.Core.Bool.{Bool, true, false, cond, not, ◌&&◌, ◌||◌, false≢true, true≢false}
use mathlib.Core.List.{List, [], ◌∷◌}
use native.Mathlib.Decide.{dec_lt}
use native.Mathlib.Numerals.{add-one}
use native.Mathlib.Omega.{arith}
use borrow.Author.Tests.{leb-true, leb-false, ltb-false, lt-ltb, eq-eqb, ne_eqb, eqb-true, not-false}
use lib.Dec.{ltb, leb, eqb}
use Rattle.form.specs.Block.{blocks, kind_of, count_of, kind_falls, low_behind, ends_low, none_before, blocks_below, earlier, fourth_of_kind, bad_count, not_filled, over_filled, stray, bad_block}
use Rattle.form.proofs.Tests.{and_rest, all_fail}

module _ (s : List ℕ) where
  -- the tests of a good block that are used here
  good_falls : (b : ℕ) → bad_block s b ≡ false → kind_falls s b ≡ false
  unfolding bad_block
  good_falls b e =
      (all_fail (kind_falls s b) (low_behind s b ∷ ends_low s b ∷ none_before s b ∷ fourth_of_kind s b ∷ bad_count s b ∷ not_filled s b ∷ over_filled s b ∷ stray s b ∷ []) e).0

  good_rest : (b : ℕ) → bad_block s b ≡ false → (fourth_of_kind s b ≡ false) × (not_filled s b ≡ false) × (over_filled s b ≡ false)
  unfolding bad_block
  good_rest b e =
      let f = all_fail (kind_falls s b) (low_behind s b ∷ ends_low s b ∷ none_before s b ∷ fourth_of_kind s b ∷ bad_count s b ∷ not_filled s b ∷ over_filled s b ∷ stray s b ∷ []) e in
      let g = f.1.1.1.1 in
      (g.0, g.1.1.0, g.1.1.1.0)

  -- a kind that does not fall
  no_fall : (b : ℕ) → kind_falls s (b + 1) ≡ false → kind_of s b ≤ kind_of s (b + 1)
  unfolding kind_falls
  no_fall b e =
      let p : b + 1 - 1 ≡ b = omega arith in
      rw p at (ltb-false (kind_of s (b + 1)) (kind_of s (b + 1 - 1)) (and_rest (ltb 0 (b + 1)) _ (lt-ltb 0 (b + 1) (omega arith)) e))

  -- up to block m no kind falls: so no kind before is above it
  module _ (m : ℕ) (rise : (i : ℕ) → i ≤ m → kind_falls s i ≡ false) where
    rises : (n j : ℕ) → j + n ≤ m → kind_of s j ≤ kind_of s (j + n)
    rises zero j h = let e : j + 0 ≡ j = omega arith in rw e (omega arith)
    rises (suc n) j h =
        let e : j + suc n ≡ j + n + 1 = omega arith in
        rw e (omega (arith, rises n j (omega arith), no_fall (j + n) (rise (j + n + 1) (omega arith))))

    up_to : (j : ℕ) → j ≤ m → kind_of s j ≤ kind_of s m
    up_to j h = let e : j + (m - j) ≡ m = omega arith in rw e at (rises (m - j) j (omega arith))

  none_of : (k n : ℕ) → ((j : ℕ) → j < n → kind_of s j ≡ k → ⊥) → blocks_below k s n ≡ 0
  unfolding blocks_below
  none_of k zero h = refl
  none_of k (suc n) h = rw (none_of k n (λ j l. h j (omega arith)), ne_eqb (kind_of s n) k (h n (omega arith)))

  -- where a block of its kind came before, the one before it is of its kind
  same_kind : (c : ℕ) → ((i : ℕ) → i ≤ c + 1 → kind_falls s i ≡ false) → 0 < blocks_below (kind_of s (c + 1)) s (c + 1) → kind_of s c ≡ kind_of s (c + 1)
  same_kind c rise some = by (dec_lt (kind_of s c) (kind_of s (c + 1)))
    where
      by : Dec (kind_of s c < kind_of s (c + 1)) → kind_of s c ≡ kind_of s (c + 1)
      by (yes l) =
          absurd (omega (arith, some, none_of (kind_of s (c + 1)) (c + 1) (λ j h e. omega (arith, e, l, up_to c (λ i q. rise i (omega arith)) j (omega arith)))))
      by (no n) = omega (arith, n, no_fall c (rise (c + 1) (omega arith)))

  one_more : (k c : ℕ) → kind_of s c ≡ k → blocks_below k s (c + 1) ≡ blocks_below k s c + 1
  unfolding blocks_below
  one_more k c e = rw (add-one c, eq-eqb (kind_of s c) k e)

  module _ (c : ℕ) (there : c + 1 < blocks s) (same : kind_of s c ≡ kind_of s (c + 1)) where
    -- a good block with one of its kind behind it is full, so it is not the third
    full : not_filled s c ≡ false → count_of s c ≡ 12
    unfolding not_filled
    full e =
        eqb-true (count_of s c) 12 (not-false (eqb (count_of s c) 12)
        (and_rest (eqb (kind_of s (c + 1)) (kind_of s c)) _ (eq-eqb (kind_of s (c + 1)) (kind_of s c) (sym same))
        (and_rest (ltb (c + 1) (blocks s)) _ (lt-ltb (c + 1) (blocks s) there) e)))

    not_third : bad_block s c ≡ false → earlier s c ≡ 2 → ⊥
    not_third g e =
        let r = good_rest c g in
        true≢false (sym (lt-ltb 8 (count_of s c) (omega (arith, full r.1))) ∙ and_rest (eqb (earlier s c) 2) (ltb 8 (count_of s c)) (eq-eqb (earlier s c) 2 e) r.2)

  below_fourth : (c : ℕ) → c + 1 < blocks s → ((i : ℕ) → i ≤ c → bad_block s i ≡ false) → kind_falls s (c + 1) ≡ false → fourth_of_kind s (c + 1) ≡ true → ⊥
  below_fourth c there good falls e =
      let three : 3 ≤ earlier s (c + 1) = leb-true 3 (earlier s (c + 1)) e in
      let same : kind_of s c ≡ kind_of s (c + 1) = same_kind c (λ i h. rising i h (dec_lt i (c + 1))) (omega (arith, three)) in
      let k : earlier s c ≡ blocks_below (kind_of s (c + 1)) s c = ap (λ (n : ℕ). blocks_below n s c) same in
      let few : earlier s c < 3 = leb-false 3 (earlier s c) (good_rest c (good c (omega arith))).0 in
      not_third c there same (good c (omega arith)) (omega (arith, three, k, few, one_more (kind_of s (c + 1)) c same))
    where
      rising : (i : ℕ) → i ≤ c + 1 → Dec (i < c + 1) → kind_falls s i ≡ false
      rising i h (yes l) = good_falls i (good i (omega arith))
      rising i h (no n) = let q : i ≡ c + 1 = omega arith in rw q falls

  pub never_fourth : (b : ℕ) → b < blocks s → ((i : ℕ) → i < b → bad_block s i ≡ false) → kind_falls s b ≡ false → fourth_of_kind s b ≡ true → ⊥
  never_fourth zero there good falls e = omega (arith, leb-true 3 (earlier s 0) e, none_of (kind_of s 0) 0 (λ j h. absurd (omega arith)))
  never_fourth (suc c) there good falls e =
      let q : c + 1 ≡ suc c = omega arith in
      below_fourth c (omega arith) (λ i h. good i (omega arith)) (ap (kind_falls s) q ∙ falls) (ap (fourth_of_kind s) q ∙ e)
