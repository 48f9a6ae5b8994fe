-- Lines of a text. Assumes nothing.
--     first-line, first-line-return    a line with its end before the rest of a text: LF, or CR and LF
--     last_line, lines_end       a last line without its end, and no line at the end
--     Whole, AllWhole            what may be printed as a line; lines-ended: such lines come back
--     line-last, line_empty, line_plain, line-return    the line that begins at a place, by how it ends: what `next_line` answers
use Prim.Native.Nat.{ℕ, ◌+◌, ◌-◌, ◌<◌, ◌≤◌}
use mathlib.Core.Path.{◌≡◌, refl, sym, ap, ◌∙◌}
use mathlib.Core.Bool.{Bool, true, false, ◌&&◌}
use mathlib.Core.List.{List, [], ◌∷◌, ◌++◌, append_assoc}
use native.Mathlib.Omega.{arith}
use lib.Dec.{eqb}
use lib.ListN.{length, drop, get_or, length-drop, drop_of_length-le}
use borrow.Author.Tests.{ne_eqb}
use Rattle.cells.specs.Lines.{part, last_of, onto, lines_of, ended, has, LineAt}
use Rattle.cells.specs.Cells.{up_to, EndAt}
use Rattle.cells.proofs.Parts.{part_length, part_none, part_end, part-rest, last_at}
use Rattle.cells.proofs.Splits.{up_to_none, cut_at, has_append}
use Rattle.cells.proofs.Tests.{and_off, or_none}

-- a byte that is neither an LF nor a CR before one is the line's
letter : (b : ℕ) (bs : List ℕ) → eqb b 10 ≡ false → (eqb b 13 && eqb (get_or bs 0 0) 10) ≡ false → lines_of (b ∷ bs) ≡ onto b (lines_of bs)
unfolding lines_of
letter b bs e f = rw (e, f)

-- any byte but an LF is, where the next is no LF
letter_before : (b : ℕ) (bs : List ℕ) → eqb b 10 ≡ false → eqb (get_or bs 0 0) 10 ≡ false → lines_of (b ∷ bs) ≡ onto b (lines_of bs)
letter_before b bs e f = letter b bs e (ap (λ (t : Bool). eqb b 13 && t) f ∙ and_off (eqb b 13))

first_of : (b : ℕ) (bs : List ℕ) → has 10 (b ∷ bs) ≡ false → (eqb b 10 ≡ false) × (has 10 bs ≡ false)
unfolding has
first_of b bs h = or_none (eqb b 10) (has 10 bs) h

pub first-line : (x rest : List ℕ) → has 10 x ≡ false → (last_of x ≡ 13 → ⊥) → lines_of (x ++ 10 ∷ rest) ≡ x ∷ lines_of rest
unfolding lines_of last_of
first-line [] rest h n = refl
first-line (b ∷ []) rest h n = letter b (10 ∷ rest) (first_of b [] h).0 (ap (λ (t : Bool). t && true) (ne_eqb b 13 n))
first-line (b ∷ c ∷ x) rest h n =
    let g = first_of b (c ∷ x) h in
    letter_before b (c ∷ x ++ 10 ∷ rest) g.0 (first_of c x g.1).0 ∙ ap (onto b) (first-line (c ∷ x) rest g.1 n)

pub first-line-return : (x rest : List ℕ) → has 10 x ≡ false → lines_of (x ++ 13 ∷ 10 ∷ rest) ≡ x ∷ lines_of rest
unfolding lines_of
first-line-return [] rest h = refl
first-line-return (b ∷ []) rest h = letter_before b (13 ∷ 10 ∷ rest) (first_of b [] h).0 refl
first-line-return (b ∷ c ∷ x) rest h =
    let g = first_of b (c ∷ x) h in
    letter_before b (c ∷ x ++ 13 ∷ 10 ∷ rest) g.0 (first_of c x g.1).0 ∙ ap (onto b) (first-line-return (c ∷ x) rest g.1)

pub last_line : (x : List ℕ) → has 10 x ≡ false → 0 < length x → lines_of x ≡ x ∷ []
unfolding lines_of
last_line [] h n = absurd (omega arith)
last_line (b ∷ []) h n = letter_before b [] (first_of b [] h).0 refl
last_line (b ∷ c ∷ x) h n =
    let g = first_of b (c ∷ x) h in
    letter_before b (c ∷ x) g.0 (first_of c x g.1).0 ∙ ap (onto b) (last_line (c ∷ x) g.1 (omega arith))

pub lines_end : (text : List ℕ) (at : ℕ) → length text ≤ at → lines_of (drop at text) ≡ []
unfolding lines_of
lines_end text at h = ap lines_of (drop_of_length-le text {i = at} h)

-- what may be printed as a line: it has no LF, and no CR at its end
pub record Whole (x : List ℕ) : Type 0 where
  pub no_end : has 10 x ≡ false
  pub no_return : last_of x ≡ 13 → ⊥

abbrev pub AllWhole : List (List ℕ) → Type 0
AllWhole [] = Unit {0}
AllWhole (x ∷ xs) = Whole x × AllWhole xs

pub lines-ended : (xs : List (List ℕ)) → AllWhole xs → lines_of (ended xs) ≡ xs
unfolding lines_of ended
lines-ended [] h = refl
lines-ended (x ∷ xs) h = first-line x (ended xs) h.0.no_end h.0.no_return ∙ ap (λ (ls : List (List ℕ)). x ∷ ls) (lines-ended xs h.1)

-- what begins at a place goes up to an LF or to the end
module _ (text : List ℕ) (at end : ℕ) (h : at < length text) (e : EndAt 10 text at end) where
  none : has 10 (part at end text) ≡ false
  none = ap (has 10) e.field ∙ up_to_none 10 (drop at text)

  pub line-last : end ≡ length text → LineAt text at (record { from = at; to = end; next = end })
  line-last n =
      record {
        starts = refl;
        ordered = e.ordered;
        inside = omega arith;
        onward = omega arith;
        within = e.inside;
        lines =
            let w : drop at text ≡ part at end text = sym (part-rest at text) ∙ ap (λ (k : ℕ). part at k text) (sym n) in
            ap lines_of w
            ∙ last_line (part at end text) none (omega (arith, part_length at end text e.ordered e.inside))
            ∙ ap (λ (x : List (List ℕ)). part at end text ∷ x) (sym (lines_end text end (omega arith)));
      }

  module _ (before : end ≡ length text → ⊥) where
    l : end < length text
    l = omega (arith, before, e.inside)

    split : drop at text ≡ part at end text ++ 10 ∷ drop (end + 1) text
    split =
        cut_at 10 (drop at text) (omega (arith, ap length e.field, part_length at end text e.ordered e.inside, length-drop at text, e.ordered))
        ∙ ap (λ (x : List ℕ). up_to 10 (drop at text) ++ 10 ∷ x) (sym e.rest)
        ∙ ap (λ (x : List ℕ). x ++ 10 ∷ drop (end + 1) text) (sym e.field)

    plainly : (last_of (part at end text) ≡ 13 → ⊥) → LineAt text at (record { from = at; to = end; next = end + 1 })
    plainly n = record {
      starts = refl;
      ordered = e.ordered;
      inside = omega arith;
      onward = omega (arith, e.ordered);
      within = omega arith;
      lines = ap lines_of split ∙ first-line (part at end text) (drop (end + 1) text) none n;
    }

    pub line_empty : end ≡ at → LineAt text at (record { from = at; to = end; next = end + 1 })
    unfolding last_of
    line_empty n =
        let w : part at end text ≡ [] = ap (λ (k : ℕ). part at k text) n ∙ part_none at text in
        plainly (λ z. let v : 0 ≡ 13 = sym (ap last_of w) ∙ z in omega arith)

    pub line_plain : (end ≡ at → ⊥) → (get_or text (end - 1) 0 ≡ 13 → ⊥) → LineAt text at (record { from = at; to = end; next = end + 1 })
    line_plain a n = plainly (λ z. n (sym (last_at at end text (omega (arith, e.ordered, a)) e.inside) ∙ z))

    pub line-return : (end ≡ at → ⊥) → get_or text (end - 1) 0 ≡ 13 → LineAt text at (record { from = at; to = end - 1; next = end + 1 })
    line-return a n =
        let b : at ≤ end - 1 = omega (arith, e.ordered, a) in
        let k : end ≡ end - 1 + 1 = omega (arith, e.ordered, a) in
        let x = part at (end - 1) text in
        let w = ap (λ (j : ℕ). part at j text) k ∙ part_end at (end - 1) text b (omega arith) ∙ ap (λ (j : ℕ). x ++ j ∷ []) n in
        record {
          starts = refl;
          ordered = b;
          inside = omega arith;
          onward = omega arith;
          within = omega arith;
          lines =
              ap lines_of (split ∙ ap (λ (y : List ℕ). y ++ 10 ∷ drop (end + 1) text) w ∙ append_assoc x (13 ∷ []) (10 ∷ drop (end + 1) text))
              ∙ first-line-return x (drop (end + 1) text) (has_append 10 x (13 ∷ []) (sym (ap (has 10) w) ∙ none)).0;
        }
