-- Words of a text. Assumes nothing.
--     word_is              word i of some words, none of which has a space in it; word_put, the one that `put_word` puts is that word of their text
use Prim.Native.Nat.{ℕ, zero, suc, ◌+◌}
use mathlib.Core.Path.{◌≡◌, refl, sym, ap, ◌∙◌}
use mathlib.Core.Bool.{Bool, true, false, cond}
use mathlib.Core.List.{List, [], ◌∷◌, ◌++◌, append_assoc, flat_map, map}
use native.Mathlib.Omega.{arith}
use lib.Dec.{eqb}
use lib.ListN.{drop, get_or}
use Rattle.std.specs.Borrow.{Bor}
use Rattle.phrases.specs.Ascii.{codes}
use Rattle.phrases.specs.Lines.{spaces}
use Rattle.phrases.specs.Words.{spaced_out, up_to_space, start_of, word_at, word_in}
use Rattle.phrases.proofs.Filled.{spaces_append}

-- the first word, and the others behind its space
start_zero : (s : List ℕ) → start_of 0 s ≡ 0
unfolding start_of
start_zero [] = refl
start_zero (b ∷ s) = refl

first_word : (w t : List ℕ) → spaces w ≡ 0 → up_to_space (w ++ 32 ∷ t) ≡ w
unfolding up_to_space spaces
first_word [] t h = refl
first_word (b ∷ w) t h = by (eqb b 32) refl (λ g. first_word w t g)
  where
    by : (q : Bool) → eqb b 32 ≡ q → (spaces w ≡ 0 → up_to_space (w ++ 32 ∷ t) ≡ w) → cond (eqb b 32) [] (b ∷ up_to_space (w ++ 32 ∷ t)) ≡ b ∷ w
    by true e more = let g = rw e at h in absurd (omega arith)
    by false e more =
        let g = rw e at h in
        rw e (ap (λ (x : List ℕ). b ∷ x) (more (omega arith)))

later-word : (i : ℕ) (w t : List ℕ) → spaces w ≡ 0 → word_at (suc i) (w ++ 32 ∷ t) ≡ word_at i t
unfolding start_of spaces
later-word i [] t h = refl
later-word i (b ∷ w) t h = by (eqb b 32) refl (λ g. later-word i w t g)
  where
    by : (q : Bool) → eqb b 32 ≡ q → (spaces w ≡ 0 → word_at (suc i) (w ++ 32 ∷ t) ≡ word_at i t) → word_at (suc i) (b ∷ (w ++ 32 ∷ t)) ≡ word_at i t
    by true e more = let g = rw e at h in absurd (omega arith)
    by false e more =
        let g = rw e at h in
        rw e (more (omega arith))

pub word_is : (words : List (List ℕ)) (i : ℕ) → spaces (flat_map (λ (w : List ℕ). w) words) ≡ 0 → word_at i (spaced_out words) ≡ get_or words i []
unfolding flat_map up_to_space start_of
word_is [] i h = refl
word_is (w ∷ words) i h = by i (λ j g. word_is words j g)
  where
    n : spaces (w ++ flat_map (λ (x : List ℕ). x) words) ≡ spaces w + spaces (flat_map (λ (x : List ℕ). x) words)
    n = spaces_append w (flat_map (λ (x : List ℕ). x) words)

    same : spaced_out (w ∷ words) ≡ w ++ 32 ∷ spaced_out words
    same = append_assoc w (32 ∷ []) (spaced_out words)

    by : (j : ℕ) → ((m : ℕ) → spaces (flat_map (λ (x : List ℕ). x) words) ≡ 0 → word_at m (spaced_out words) ≡ get_or words m []) → word_at j (spaced_out (w ∷ words)) ≡ get_or (w ∷ words) j []
    by zero more = ap (word_at 0) same ∙ ap (λ (k : ℕ). up_to_space (drop k (w ++ 32 ∷ spaced_out words))) (start_zero (w ++ 32 ∷ spaced_out words)) ∙ first_word w (spaced_out words) (omega (arith, h, n))
    by (suc j) more = ap (word_at (suc j)) same ∙ later-word j w (spaced_out words) (omega (arith, h, n)) ∙ more j (omega (arith, h, n))

pub word_put : (words : List (Bor (List ℕ))) (i : ℕ) → spaces (flat_map (λ (w : List ℕ). w) (map (λ (w : Bor (List ℕ)). w.now) words)) ≡ 0
    → word_in i words ≡ word_at i (spaced_out (map (λ (w : Bor (List ℕ)). w.now) words))
word_put words i h = sym (word_is (map (λ (w : Bor (List ℕ)). w.now) words) i h)

-- how it is used: any word of a literal text, here "ab c "
word_of : (i : ℕ) → word_at i (codes "ab c ") ≡ get_or (codes "ab" ∷ codes "c" ∷ []) i []
unfolding flat_map spaces
word_of i = word_is (codes "ab" ∷ codes "c" ∷ []) i refl
