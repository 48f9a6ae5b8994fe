-- A run through a file, return by return. Assumes nothing.
--     prepend              what was cut before, in front of what is cut behind it
--     at_start, one_more, at_stop   the turns of a run: what was cut so far, with what is left, is the whole file's
--     size_of              how long a return that comes next is; few_cut, how many there are
use Rattle.std.specs.Prelude.{Result, Ok, Err}
use Prim.Native.Nat.{ℕ, zero, suc, ◌+◌, ◌-◌, ◌*◌, ◌<◌, ◌≤◌}
use mathlib.Core.Path.{◌≡◌, refl, sym, ap, ◌∙◌}
use mathlib.Core.Bool.{Bool, true, false, cond, ◌||◌}
use mathlib.Core.List.{List, [], ◌∷◌, ◌++◌, append-nil, append_assoc}
use native.Mathlib.Decide.{dec_lt}
use native.Mathlib.Omega.{arith}
use borrow.Author.Tests.{lt-ltb, le-ltb, ltb-true, ltb-false, eqb-false}
use lib.Dec.{eqb, ltb}
use lib.ListN.{length, take, drop, length-append, length-drop}
use lib.Seq.{drop-drop}
use Rattle.form.specs.Block.{most_blocks, blocks_said}
use Rattle.form.proofs.Tests.{or_none}
use Rattle.cutting.specs.Cutting.{most_returns, sized_by, next_of, end_of, next_after, Cut, stopped_by, behind, cut_by, cut_from, cut_file}
use Rattle.cutting.specs.declared.Stop.{Stop}
use Rattle.cutting.specs.declared.Stop.TheVariants.{Blocks, Short, Whole}

-- a return that comes next has all its blocks there
pub record Size (s : List ℕ) (n : ℕ) : Type 0 where
  pub some : 512 ≤ n
  pub few : n ≤ 512 * most_blocks
  pub there : n ≤ length s
  pub said : n ≡ 512 * blocks_said s 0

sized-long : (s : List ℕ) (m n : ℕ) (b q : Bool) → eqb m 0 || ltb most_blocks m ≡ b → ltb (length s) (512 * m) ≡ q
    → cond b (Err (Blocks m)) (cond q (Err Short) (Ok (512 * m))) ≡ Ok n → m ≡ blocks_said s 0 → Size s n
sized-long s m n true q eb eq e z = let x : ◌≡◌ {A = ℕ} 0 1 = cc in absurd (omega arith)
sized-long s m n false true eb eq e z = let x : ◌≡◌ {A = ℕ} 0 1 = cc in absurd (omega arith)
sized-long s m n false false eb eq e z =
    let f = or_none (eqb m 0) (ltb most_blocks m) eb in
    let k : 512 * m ≡ n = cc in
    let y : m ≡ 0 → ⊥ = eqb-false m 0 f.0 in
    record {
      some = omega arith;
      few = omega (arith, ltb-false most_blocks m f.1);
      there = omega (arith, ltb-false (length s) (512 * m) eq);
      said = omega arith;
    }

next-long : (s : List ℕ) (n : ℕ) (b q : Bool) → cond b (Err Whole) (cond q (Err Short) (sized_by (blocks_said s 0) (length s))) ≡ Ok n → Size s n
unfolding sized_by
next-long s n true q e = let x : ◌≡◌ {A = ℕ} 0 1 = cc in absurd (omega arith)
next-long s n false true e = let x : ◌≡◌ {A = ℕ} 0 1 = cc in absurd (omega arith)
next-long s n false false e = sized-long s (blocks_said s 0) n _ _ refl refl e refl

pub size_of : (s : List ℕ) (n : ℕ) → next_of s ≡ Ok n → Size s n
unfolding next_of
size_of s n e = next-long s n (eqb (length s) 0) (ltb (length s) 6) e

-- what comes next after some returns: one only where it is allowed
after_by : (s : List ℕ) (b : Bool) (n : ℕ) → cond b (next_of s) (Err (end_of s)) ≡ Ok n → (b ≡ true) × (next_of s ≡ Ok n)
after_by s true n e = (refl, e)
after_by s false n e = let x : ◌≡◌ {A = ℕ} 0 1 = cc in absurd (omega arith)

pub return-after : (s : List ℕ) (taken n : ℕ) → next_after taken s ≡ Ok n → (taken < most_returns) × (next_of s ≡ Ok n)
return-after s taken n e =
    let a = after_by s (ltb taken most_returns) n e in
    (ltb-true taken most_returns a.0, a.1)

abbrev pub prepend : List (List ℕ) → Cut → Cut
prepend rs c = record { returns = rs ++ c.returns; stop = c.stop }

module _ (s : List ℕ) where
  -- these were cut, and the rest is still to be cut from a place on
  pub record Going (done : List (List ℕ)) (from : ℕ) : Type 0 where
    pub few : length done ≤ most_returns
    pub inside : from ≤ length s
    pub whole : prepend done (cut_from (most_returns - length done) (drop from s)) ≡ cut_file s

  pub at_start : Going [] 0
  at_start = record { few = omega arith; inside = omega arith; whole = refl }

  cut-more : (k : ℕ) (t : List ℕ) (n : ℕ) → next_of t ≡ Ok n → cut_from (suc k) t ≡ behind (take n t) (cut_from k (drop n t))
  unfolding cut_from
  cut-more k t n e = ap (λ (x : Result ℕ Stop). cut_by t x (λ m. cut_from k (drop m t))) e

  cut-end : (t : List ℕ) (w : Stop) → ◌≡◌ {A = Result ℕ Stop} (Err (end_of t)) (Err w) → cut_from 0 t ≡ stopped_by w
  unfolding cut_from
  cut-end t w e = let q : end_of t ≡ w = cc in ap stopped_by q

  cut-stop : (k : ℕ) (t : List ℕ) (w : Stop) → next_of t ≡ Err w → cut_from (suc k) t ≡ stopped_by w
  unfolding cut_from
  cut-stop k t w e = ap (λ (x : Result ℕ Stop). cut_by t x (λ m. cut_from k (drop m t))) e

  module _ (done : List (List ℕ)) (from : ℕ) (g : Going done from) where
    pub one_more : (n : ℕ) → length done < most_returns → next_of (drop from s) ≡ Ok n → Going (done ++ (take n (drop from s) ∷ [])) (from + n)
    one_more n h e =
        let z = size_of (drop from s) n e in
        let r = take n (drop from s) in
        let k = most_returns - suc (length done) in
        let q : most_returns - length done ≡ suc k = omega arith in
        let l : length (done ++ (r ∷ [])) ≡ suc (length done) = rw (length-append done (r ∷ [])) (omega arith) in
        let c = cut_from k (drop (from + n) s) in
        let d : prepend (done ++ (r ∷ [])) c ≡ prepend done (behind r c) = ap (λ (x : List (List ℕ)). record { returns = x; stop = c.stop }) (append_assoc done (r ∷ []) c.returns) in
        record {
          few = omega arith;
          inside = omega (arith, z.there, length-drop from s);
          whole = ap (λ (x : ℕ). prepend (done ++ (r ∷ [])) (cut_from (most_returns - x) (drop (from + n) s))) l
              ∙ d
              ∙ ap (λ (x : List ℕ). prepend done (behind r (cut_from k x))) (sym (drop-drop n from s))
              ∙ ap (prepend done) (sym (cut-more k (drop from s) n e))
              ∙ ap (λ (x : ℕ). prepend done (cut_from x (drop from s))) (sym q)
              ∙ g.whole;
        }

    pub at_stop : (w : Stop) → next_after (length done) (drop from s) ≡ Err w → cut_file s ≡ record { returns = done; stop = w }
    at_stop w e = by (dec_lt (length done) most_returns)
      where
        ends : cut_from (most_returns - length done) (drop from s) ≡ stopped_by w → cut_file s ≡ record { returns = done; stop = w }
        ends q = sym g.whole ∙ ap (prepend done) q ∙ ap (λ (x : List (List ℕ)). record { returns = x; stop = w }) (append-nil done)

        by : Dec (length done < most_returns) → cut_file s ≡ record { returns = done; stop = w }
        by (yes h) =
            let k : most_returns - length done ≡ suc (most_returns - suc (length done)) = omega arith in
            ends (ap (λ (x : ℕ). cut_from x (drop from s)) k ∙ cut-stop (most_returns - suc (length done)) (drop from s) w (rw (lt-ltb (length done) most_returns h) at e))
        by (no h) =
            let k : most_returns - length done ≡ 0 = omega arith in
            let o : most_returns ≤ length done = omega arith in
            ends (ap (λ (x : ℕ). cut_from x (drop from s)) k ∙ cut-end (drop from s) w (rw (le-ltb (length done) most_returns o) at e))

-- no more returns are cut than are allowed
few_by : (k : ℕ) (s : List ℕ) (x : Result ℕ Stop) → ((n : ℕ) → length (cut_from k (drop n s)).returns ≤ k) → length (cut_by s x (λ n. cut_from k (drop n s))).returns ≤ suc k
few_by k s (Ok n) h = omega (arith, h n)
few_by k s (Err w) h = omega arith

few_from : (k : ℕ) (s : List ℕ) → length (cut_from k s).returns ≤ k
unfolding cut_from
few_from zero s = omega arith
few_from (suc k) s = few_by k s (next_of s) (λ n. few_from k (drop n s))

pub few_cut : (s : List ℕ) → length (cut_file s).returns ≤ most_returns
few_cut s = few_from most_returns s
