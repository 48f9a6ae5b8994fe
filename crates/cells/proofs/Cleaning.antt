-- A field cleaned. Assumes nothing.
--     Front, front_here, front-more, front-end    the turns of a loop past the blanks at a part's front
--     Back, back_here, back_more, back_end        the same at its end
--     short-kept, front_kept, end_kept, both_off    what `unquote` answers
--     clean-kept                 a field with no blank and no quote at its ends is as it was
use Prim.Native.Nat.{ℕ, ◌+◌, ◌-◌, ◌<◌, ◌≤◌}
use mathlib.Core.Path.{◌≡◌, refl, sym, ap, ◌∙◌}
use mathlib.Core.Bool.{Bool, true, false, cond, ◌&&◌}
use mathlib.Core.List.{List, [], ◌∷◌, ◌++◌}
use native.Mathlib.Omega.{arith}
use native.Mathlib.Nat.{add-zero}
use lib.Dec.{eqb, leb}
use lib.ListN.{length, take, drop, get_or, length-append}
use lib.Seq.{take-take}
use borrow.Author.Tests.{eq-eqb, ne_eqb, le-leb, lt-leb}
use Rattle.cells.specs.Lines.{part, last_of}
use Rattle.cells.specs.Cells.{blank_in, front_off, end_off, is_empty, is_quoted, quotes_off, cleaned}
use Rattle.cells.proofs.Parts.{part_length, part_at, part_none, part-front, part_end, last_at}
use Rattle.cells.proofs.Tests.{and_off}

module _ (sep : ℕ) where
  blank_off : (b : ℕ) (bs : List ℕ) → blank_in sep b ≡ true → front_off sep (b ∷ bs) ≡ front_off sep bs
  unfolding front_off
  blank_off b bs e = rw e

  front_stays : (b : ℕ) (bs : List ℕ) → blank_in sep b ≡ false → front_off sep (b ∷ bs) ≡ b ∷ bs
  unfolding front_off
  front_stays b bs e = rw e

  -- k is reached, and only blanks are passed
  pub record Front (line : List ℕ) (from to k : ℕ) : Type 0 where
    pub ordered : from ≤ k
    pub inside : k ≤ to
    pub rest : front_off sep (part k to line) ≡ front_off sep (part from to line)

  module _ (line : List ℕ) (from to k : ℕ) (h : to ≤ length line) (c : Front line from to k) where
    front_is : part k to line ≡ front_off sep (part k to line) → (from ≤ k) × (k ≤ to) × (part k to line ≡ front_off sep (part from to line))
    front_is e = (c.ordered, c.inside, e ∙ c.rest)

    pub front-end : to ≤ k → (from ≤ k) × (k ≤ to) × (part k to line ≡ front_off sep (part from to line))
    unfolding front_off
    front-end l =
        let q : k ≡ to = omega (arith, c.inside) in
        let n : part k to line ≡ [] = ap (λ (j : ℕ). part j to line) q ∙ part_none to line in
        front_is (n ∙ sym (ap (front_off sep) n))

    module _ (l : k < to) where
      pub front_here : blank_in sep (get_or line k 0) ≡ false → (from ≤ k) × (k ≤ to) × (part k to line ≡ front_off sep (part from to line))
      front_here b =
          let o = part-front k to line l h in
          front_is (o ∙ sym (ap (front_off sep) o ∙ front_stays _ _ b))

      pub front-more : blank_in sep (get_or line k 0) ≡ true → Front line from to (k + 1)
      front-more b = record {
        ordered = omega (arith, c.ordered);
        inside = omega arith;
        rest = sym (ap (front_off sep) (part-front k to line l h) ∙ blank_off _ _ b) ∙ c.rest;
      }

  -- at the end: a last byte that is a blank is off, and any other stays
  end_off_lem : (x : List ℕ) (b : ℕ) → blank_in sep b ≡ true → end_off sep (x ++ b ∷ []) ≡ end_off sep x
  unfolding end_off
  end_off_lem [] b e = rw e
  end_off_lem (c ∷ x) b e = ap (λ (m : List ℕ). cond (blank_in sep c && is_empty m) [] (c ∷ m)) (end_off_lem x b e)

  not_empty : (x : List ℕ) (b : ℕ) → (is_empty (x ++ b ∷ [])) ≡ false
  not_empty x b = ne_eqb (length (x ++ b ∷ [])) 0 (λ z. omega (arith, z, length-append x (b ∷ [])))

  end_stays : (x : List ℕ) (b : ℕ) → blank_in sep b ≡ false → end_off sep (x ++ b ∷ []) ≡ x ++ b ∷ []
  unfolding end_off
  end_stays [] b e = rw e
  end_stays (c ∷ x) b e =
      ap (λ (m : List ℕ). cond (blank_in sep c && is_empty m) [] (c ∷ m)) (end_stays x b e)
      ∙ ap (λ (t : Bool). cond t [] (c ∷ x ++ b ∷ [])) (ap (λ (t : Bool). blank_in sep c && t) (not_empty x b) ∙ and_off (blank_in sep c))

  -- k is reached from the end, and only blanks are passed
  pub record Back (line : List ℕ) (from to k : ℕ) : Type 0 where
    pub ordered : from ≤ k
    pub inside : k ≤ to
    pub rest : end_off sep (part from k line) ≡ end_off sep (part from to line)

  module _ (line : List ℕ) (from to k : ℕ) (h : to ≤ length line) (c : Back line from to k) where
    back_is : part from k line ≡ end_off sep (part from k line) → (from ≤ k) × (k ≤ to) × (part from k line ≡ end_off sep (part from to line))
    back_is e = (c.ordered, c.inside, e ∙ c.rest)

    pub back_end : k ≤ from → (from ≤ k) × (k ≤ to) × (part from k line ≡ end_off sep (part from to line))
    unfolding end_off
    back_end l =
        let q : k ≡ from = omega (arith, c.ordered) in
        let n : part from k line ≡ [] = ap (λ (j : ℕ). part from j line) q ∙ part_none from line in
        back_is (n ∙ sym (ap (end_off sep) n))

    module _ (l : from < k) where
      taken_apart : part from k line ≡ part from (k - 1) line ++ get_or line (k - 1) 0 ∷ []
      taken_apart =
          let q : k ≡ k - 1 + 1 = omega arith in
          ap (λ (j : ℕ). part from j line) q ∙ part_end from (k - 1) line (omega arith) (omega (arith, c.inside))

      pub back_here : blank_in sep (get_or line (k - 1) 0) ≡ false → (from ≤ k) × (k ≤ to) × (part from k line ≡ end_off sep (part from to line))
      back_here b = back_is (taken_apart ∙ sym (ap (end_off sep) taken_apart ∙ end_stays (part from (k - 1) line) (get_or line (k - 1) 0) b))

      pub back_more : blank_in sep (get_or line (k - 1) 0) ≡ true → Back line from to (k - 1)
      back_more b = record {
        ordered = omega arith;
        inside = omega (arith, c.inside);
        rest = sym (ap (end_off sep) taken_apart ∙ end_off_lem (part from (k - 1) line) (get_or line (k - 1) 0) b) ∙ c.rest;
      }

-- quotes around a part, by its first and its last byte
quoted_not : (l : List ℕ) → is_quoted l ≡ false → l ≡ quotes_off l
unfolding quotes_off
quoted_not l e = rw e

module _ (line : List ℕ) (from to : ℕ) (a : from ≤ to) (h : to ≤ length line) where
  long : length (part from to line) ≡ to - from
  long = part_length from to line a h

  pub short-kept : to - from < 2 → part from to line ≡ quotes_off (part from to line)
  short-kept l =
      let p = part from to line in
      quoted_not p (ap (λ (t : Bool). t && eqb (get_or p 0 0) 34 && eqb (last_of p) 34) (lt-leb 2 (length p) (omega (arith, long))))

  module _ (l : 2 ≤ to - from) where
    begins : get_or (part from to line) 0 0 ≡ get_or line from 0
    begins = part_at from to 0 line (omega arith) ∙ ap (λ (k : ℕ). get_or line k 0) (add-zero from)

    ends : last_of (part from to line) ≡ get_or line (to - 1) 0
    ends = last_at from to line (omega arith) h

    quoted_by : is_quoted (part from to line) ≡ (eqb (get_or line from 0) 34 && eqb (get_or line (to - 1) 0) 34)
    quoted_by =
        let p = part from to line in
        ap (λ (t : Bool). t && eqb (get_or p 0 0) 34 && eqb (last_of p) 34) (le-leb 2 (length p) (omega (arith, long)))
        ∙ ap (λ (b : ℕ). eqb b 34 && eqb (last_of p) 34) begins
        ∙ ap (λ (b : ℕ). eqb (get_or line from 0) 34 && eqb b 34) ends

    pub front_kept : (get_or line from 0 ≡ 34 → ⊥) → part from to line ≡ quotes_off (part from to line)
    front_kept n = quoted_not (part from to line) (quoted_by ∙ rw (ne_eqb (get_or line from 0) 34 n))

    pub end_kept : get_or line from 0 ≡ 34 → (get_or line (to - 1) 0 ≡ 34 → ⊥) → part from to line ≡ quotes_off (part from to line)
    end_kept e n = quoted_not (part from to line) (quoted_by ∙ rw (eq-eqb (get_or line from 0) 34 e, ne_eqb (get_or line (to - 1) 0) 34 n))

    pub both_off : get_or line from 0 ≡ 34 → get_or line (to - 1) 0 ≡ 34 → part (from + 1) (to - 1) line ≡ quotes_off (part from to line)
    unfolding quotes_off
    both_off e f =
        let q : is_quoted (part from to line) ≡ true = quoted_by ∙ rw (eq-eqb (get_or line from 0) 34 e, eq-eqb (get_or line (to - 1) 0) 34 f) in
        sym (ap (λ (t : Bool). cond t (part 1 (length (part from to line) - 1) (part from to line)) (part from to line)) q ∙ inner)
      where
        inner : part 1 (length (part from to line) - 1) (part from to line) ≡ part (from + 1) (to - 1) line
        inner =
            let m : length (part from to line) - 1 - 1 ≡ to - 1 - (from + 1) = omega (arith, long) in
            ap (λ (k : ℕ). take k (drop 1 (part from to line))) m
            ∙ ap (λ (x : List ℕ). take (to - 1 - (from + 1)) (drop 1 x)) (part-front from to line (omega arith) h)
            ∙ take-take (to - 1 - (from + 1)) (to - (from + 1)) (drop (from + 1) line) (omega arith)

-- a field whose ends are neither blanks nor quotes
module _ (sep : ℕ) where
  front_same : (l : List ℕ) → blank_in sep (get_or l 0 0) ≡ false → front_off sep l ≡ l
  unfolding front_off
  front_same [] e = refl
  front_same (b ∷ l) e = rw e

  end_same : (l : List ℕ) → blank_in sep (last_of l) ≡ false → end_off sep l ≡ l
  unfolding end_off last_of
  end_same [] e = refl
  end_same (b ∷ []) e = rw e
  end_same (b ∷ c ∷ l) e =
      ap (λ (m : List ℕ). cond (blank_in sep b && is_empty m) [] (b ∷ m)) (end_same (c ∷ l) e)
      ∙ ap (λ (t : Bool). cond (blank_in sep b && t) [] (b ∷ c ∷ l)) (ne_eqb (length (c ∷ l)) 0 (λ z. omega (arith, z)))
      ∙ ap (λ (t : Bool). cond t [] (b ∷ c ∷ l)) (and_off (blank_in sep b))

  pub clean-kept : (l : List ℕ) → blank_in sep (get_or l 0 0) ≡ false → blank_in sep (last_of l) ≡ false → (get_or l 0 0 ≡ 34 → ⊥) → cleaned sep l ≡ l
  clean-kept l e f n =
      ap (λ (x : List ℕ). quotes_off (end_off sep x)) (front_same l e)
      ∙ ap quotes_off (end_same l f)
      ∙ sym (quoted_not l (first ∙ ap (λ (t : Bool). t && eqb (last_of l) 34) (and_off (leb 2 (length l)))))
    where
      first : is_quoted l ≡ (leb 2 (length l) && false && eqb (last_of l) 34)
      first = ap (λ (t : Bool). leb 2 (length l) && t && eqb (last_of l) 34) (ne_eqb (get_or l 0 0) 34 n)
