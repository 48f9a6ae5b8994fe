-- A text that says rows: its first line that counts, and where the lines behind it stand. Assumes nothing.
--     HeadAt, head_at        the lines behind the first that counts, by their numbers in the text
--     text_opened            a text that says rows is not too long, has a first line that counts, and its rows are those behind that line
use Prim.Native.Nat.{ℕ, suc, ◌+◌, ◌-◌, ◌<◌}
use mathlib.Core.Path.{◌≡◌, refl, sym, ap, ◌∙◌}
use mathlib.Core.Bool.{Bool, true, false, cond}
use mathlib.Core.List.{List, [], ◌∷◌}
use native.Mathlib.Omega.{arith}
use lib.Dec.{eqb, ltb}
use lib.ListN.{length, get_or}
use Rattle.cells.specs.Lines.{text_lines}
use Rattle.heads.specs.declared.Fault.TheVariants as F
use Rattle.heads.specs.Heads.{is_passed, fault}
use Rattle.texts.specs.Texts.{rows, faulty, lines_read, longest_text, text_read}
use Rattle.texts.specs.Steps.{HeadLine, head_line, rows_behind}
use Rattle.texts.proofs.Lines.{by_head}

-- of lines of which n are behind us
pub record HeadAt (n : ℕ) (ls : List (List ℕ)) (h : HeadLine) : Type 0 where
  pub after : n < h.number
  pub whole : h.number + length h.behind ≡ n + length ls
  pub stands : (i : ℕ) → get_or ls (h.number + i - n) [] ≡ get_or h.behind i []

pub head_at : (n : ℕ) (ls : List (List ℕ)) → ((head_line n ls).number ≡ 0 → ⊥) → HeadAt n ls (head_line n ls)
unfolding head_line
head_at n [] z = absurd (z refl)
head_at n (l ∷ ls) z = by (is_passed 44 l) z (head_at (suc n) ls)
  where
    here : HeadLine
    here = record { number = suc n; line = l; behind = ls }

    -- one line more in front
    more : HeadAt (suc n) ls (head_line (suc n) ls) → HeadAt n (l ∷ ls) (head_line (suc n) ls)
    more w = record {
      after = omega (arith, w.after);
      whole = omega (arith, w.whole);
      stands = λ i.
          let e : (head_line (suc n) ls).number + i - n ≡ suc ((head_line (suc n) ls).number + i - suc n) = omega (arith, w.after) in
          ap (λ (j : ℕ). get_or (l ∷ ls) j []) e ∙ w.stands i;
    }

    by : (p : Bool) → ((cond p (head_line (suc n) ls) here).number ≡ 0 → ⊥) → (((head_line (suc n) ls).number ≡ 0 → ⊥) → HeadAt (suc n) ls (head_line (suc n) ls))
        → HeadAt n (l ∷ ls) (cond p (head_line (suc n) ls) here)
    by true q over = more (over q)
    by false q over = record {
      after = omega arith;
      whole = omega arith;
      stands = λ i. let e : suc n + i - n ≡ suc i = omega arith in ap (λ (j : ℕ). get_or (l ∷ ls) j []) e;
    }

module _ {e : ℕ} {lengths area : List ℕ} where
  pub text_opened : (text : List ℕ) → text_read text ≡ rows e lengths area
      → (ltb longest_text (length text) ≡ false)
      × ((eqb (head_line 0 (text_lines text)).number 0 ≡ false) × (rows_behind (head_line 0 (text_lines text)) ≡ rows e lengths area))
  unfolding text_read
  text_opened text q = by (ltb longest_text (length text)) refl q
    where
      h : HeadLine
      h = head_line 0 (text_lines text)

      lines : (b : Bool) → eqb h.number 0 ≡ b → cond b (faulty (fault 0 F.Edition)) (rows_behind h) ≡ rows e lengths area
          → (eqb h.number 0 ≡ false) × (rows_behind h ≡ rows e lengths area)
      lines true p g = let z : ◌≡◌ {A = ℕ} 0 1 = cc in absurd (omega arith)
      lines false p g = (p, g)

      by : (b : Bool) → ltb longest_text (length text) ≡ b → cond b (faulty (fault 0 F.Long)) (lines_read 0 (text_lines text)) ≡ rows e lengths area
          → (ltb longest_text (length text) ≡ false) × ((eqb h.number 0 ≡ false) × (rows_behind h ≡ rows e lengths area))
      by true p g = let z : ◌≡◌ {A = ℕ} 0 1 = cc in absurd (omega arith)
      by false p g = (p, lines (eqb h.number 0) refl (sym (by_head 0 (text_lines text)) ∙ g))
