-- A text cut at a byte. Assumes nothing.
--     up_to_length, up_to_none, cut_at    what stands before the first separator: by its length, it has none, and the text is it, the separator, and the rest
--     has_append                 a byte in one of two texts
--     Left, end_here, end-past, end_more    the turns of a loop that looks for the separator
use Prim.Native.Nat.{ℕ, suc, ◌+◌, ◌-◌, ◌<◌, ◌≤◌}
use mathlib.Core.Path.{◌≡◌, refl, sym, ap, ◌∙◌}
use mathlib.Core.Bool.{Bool, true, false, cond, ◌||◌}
use mathlib.Core.List.{List, [], ◌∷◌, ◌++◌}
use native.Mathlib.Omega.{arith}
use lib.Dec.{eqb}
use lib.ListN.{length, take, drop, get_or, drop_of_length-le}
use borrow.Author.Tests.{eq-eqb, ne_eqb, eqb-true}
use Rattle.cells.specs.Cells.{up_to, behind, EndAt}
use Rattle.cells.specs.Lines.{has}
use Rattle.cells.proofs.Parts.{opened}

module _ (sep : ℕ) where
  pub up_to_length : (l : List ℕ) → take (length (up_to sep l)) l ≡ up_to sep l
  unfolding up_to
  up_to_length [] = refl
  up_to_length (b ∷ bs) = by (eqb b sep) (up_to_length bs)
    where
      by : (q : Bool) → take (length (up_to sep bs)) bs ≡ up_to sep bs → take (length (cond q [] (b ∷ up_to sep bs))) (b ∷ bs) ≡ cond q [] (b ∷ up_to sep bs)
      by true more = refl
      by false more = ap (λ (x : List ℕ). b ∷ x) more

  pub up_to_none : (l : List ℕ) → has sep (up_to sep l) ≡ false
  unfolding up_to has
  up_to_none [] = refl
  up_to_none (b ∷ bs) = by (eqb b sep) refl (up_to_none bs)
    where
      by : (q : Bool) → eqb b sep ≡ q → has sep (up_to sep bs) ≡ false → has sep (cond q [] (b ∷ up_to sep bs)) ≡ false
      by true e more = refl
      by false e more = ap (λ (t : Bool). t || has sep (up_to sep bs)) e ∙ more

  pub cut_at : (l : List ℕ) → length (up_to sep l) < length l → l ≡ up_to sep l ++ sep ∷ behind sep l
  unfolding up_to behind
  cut_at [] h = absurd (omega arith)
  cut_at (b ∷ bs) h = by (eqb b sep) refl h (λ g. cut_at bs g)
    where
      by : (q : Bool) → eqb b sep ≡ q → length (cond q [] (b ∷ up_to sep bs)) < suc (length bs)
          → (length (up_to sep bs) < length bs → bs ≡ up_to sep bs ++ sep ∷ behind sep bs)
          → b ∷ bs ≡ cond q [] (b ∷ up_to sep bs) ++ sep ∷ cond q bs (behind sep bs)
      by true e g more = ap (λ (x : ℕ). x ∷ bs) (eqb-true b sep e)
      by false e g more = ap (λ (x : List ℕ). b ∷ x) (more (omega arith))

  pub has_append : (x y : List ℕ) → has sep (x ++ y) ≡ false → (has sep x ≡ false) × (has sep y ≡ false)
  unfolding has
  has_append [] y h = (refl, h)
  has_append (b ∷ x) y h = by (eqb b sep) h (λ g. has_append x y g)
    where
      by : (q : Bool) → (q || has sep (x ++ y)) ≡ false → (has sep (x ++ y) ≡ false → (has sep x ≡ false) × (has sep y ≡ false))
          → ((q || has sep x) ≡ false) × (has sep y ≡ false)
      by true g more = let z : true ≡ false = g in (z, cc)
      by false g more = more g

  -- k bytes are passed, and the separator was not among them
  pub record Left (text : List ℕ) (at k : ℕ) : Type 0 where
    pub ordered : at ≤ k
    pub inside : k ≤ length text
    pub place : k + length (up_to sep (drop k text)) ≡ at + length (up_to sep (drop at text))
    pub rest : behind sep (drop k text) ≡ behind sep (drop at text)

  pub none_passed : (text : List ℕ) (at : ℕ) → at ≤ length text → Left text at at
  none_passed text at h = record { ordered = omega arith; inside = h; place = refl; rest = refl }

  module _ (text : List ℕ) (at k : ℕ) (c : Left text at k) where
    -- nothing is left before the separator
    ended : up_to sep (drop k text) ≡ [] → drop (k + 1) text ≡ behind sep (drop k text) → EndAt sep text at k
    ended n r = record {
      ordered = c.ordered;
      inside = c.inside;
      field =
          let e : k - at ≡ length (up_to sep (drop at text)) = omega (arith, c.place, ap length n, c.ordered) in
          ap (λ (j : ℕ). take j (drop at text)) e ∙ up_to_length (drop at text);
      rest = r ∙ c.rest;
    }

    pub end-past : length text ≤ k → EndAt sep text at k
    unfolding up_to behind
    end-past h =
        let e : drop k text ≡ [] = drop_of_length-le text {i = k} h in
        ended (ap (up_to sep) e) (drop_of_length-le text {i = k + 1} (omega arith) ∙ sym (ap (behind sep) e))

    module _ (h : k < length text) where
      pub end_here : get_or text k 0 ≡ sep → EndAt sep text at k
      unfolding up_to behind
      end_here e =
          let t = eq-eqb (get_or text k 0) sep e in
          ended (ap (up_to sep) (opened text k h) ∙ rw t) (sym (ap (behind sep) (opened text k h) ∙ rw t))

      pub end_more : (get_or text k 0 ≡ sep → ⊥) → Left text at (k + 1)
      unfolding up_to behind
      end_more n =
          let t = ne_eqb (get_or text k 0) sep n in
          let u : up_to sep (drop k text) ≡ get_or text k 0 ∷ up_to sep (drop (k + 1) text) = ap (up_to sep) (opened text k h) ∙ rw t in
          let v : behind sep (drop k text) ≡ behind sep (drop (k + 1) text) = ap (behind sep) (opened text k h) ∙ rw t in
          record { ordered = omega (arith, c.ordered); inside = omega arith; place = omega (arith, c.place, ap length u); rest = sym v ∙ c.rest }
