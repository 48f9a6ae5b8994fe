-- The rows of a text are the numbers that its fields say. Assumes nothing.
--     Told, text_told            the edition and the separator are those of the first line that counts, and the area has what the lines behind it say, in their order
use Prim.Native.Nat.{ℕ, suc}
use mathlib.Core.Path.{◌≡◌, refl, sym, ap, ◌∙◌}
use mathlib.Core.Bool.{Bool, true, false, cond}
use mathlib.Core.List.{List, [], ◌∷◌, ◌++◌, append-nil, append_assoc}
use native.Mathlib.Omega.{arith}
use lib.Dec.{eqb, ltb}
use lib.ListN.{length}
use Rattle.std.specs.Prelude.{Result, Ok, Err}
use Rattle.cells.specs.Lines.{text_lines}
use Rattle.rowtext.specs.Said.{numbers_said}
use Rattle.heads.specs.Heads.{is_passed, fault, edition_by, head_of}
use Rattle.heads.specs.declared.Fault.TheVariants as F
use Rattle.heads.specs.declared.TextFault.{TextFault}
use Rattle.heads.specs.declared.Head.{Head}
use Rattle.texts.specs.Texts.{Sofar, nothing, rows, faulty, kind_in, checked, after_line, unless_fault, rows_from, rows_by, lines_read, longest_text, text_read}
use Rattle.texts.specs.Steps.{HeadLine, head_line, rows_behind, said_in}
use Rattle.texts.proofs.Lines.{by_head}

-- what the first line that counts says, and the lines behind it
pub record Told (h : HeadLine) (e : ℕ) (area : List ℕ) : Type 0 where
  pub separator : ℕ
  pub head : head_of h.number h.line ≡ edition_by e separator
  pub said : area ≡ said_in separator h.behind

module _ {e : ℕ} {lengths area : List ℕ} where
  said_more : (edition sep n : ℕ) (st : Sofar) (ls : List (List ℕ)) → rows_from edition sep n st ls ≡ rows e lengths area → (edition ≡ e) × (area ≡ st.area ++ said_in sep ls)
  unfolding rows_from said_in
  said_more edition sep n st [] q = let z : st.area ≡ area = cc in (cc, sym (append-nil st.area ∙ z))
  said_more edition sep n st (l ∷ ls) q = by (is_passed sep l) (checked sep st (suc n) l) q (said_more edition sep (suc n) st ls) (said_more edition sep (suc n) (after_line sep st l) ls)
    where
      row : List ℕ
      row = numbers_said sep (kind_in sep l) l

      by : (p : Bool) (c : Result ℕ TextFault)
          → cond p (rows_from edition sep (suc n) st ls) (unless_fault c (rows_from edition sep (suc n) (after_line sep st l) ls)) ≡ rows e lengths area
          → (rows_from edition sep (suc n) st ls ≡ rows e lengths area → (edition ≡ e) × (area ≡ st.area ++ said_in sep ls))
          → (rows_from edition sep (suc n) (after_line sep st l) ls ≡ rows e lengths area → (edition ≡ e) × (area ≡ st.area ++ row ++ said_in sep ls))
          → (edition ≡ e) × (area ≡ st.area ++ cond p (said_in sep ls) (row ++ said_in sep ls))
      by true c g over more = over g
      by false (Ok k) g over more = ((more g).0, (more g).1 ∙ append_assoc st.area row (said_in sep ls))
      by false (Err f) g over more = let z : ◌≡◌ {A = ℕ} 0 1 = cc in absurd (omega arith)

  behind_told : (h : HeadLine) (x : Result Head TextFault) → head_of h.number h.line ≡ x → rows_by x h.number h.behind ≡ rows e lengths area → Told h e area
  behind_told h (Ok x) p q =
      let w = said_more x.edition x.separator h.number nothing h.behind q in
      record { separator = x.separator; head = p ∙ ap (λ (i : ℕ). edition_by i x.separator) w.0; said = w.1 }
  behind_told h (Err f) p q = let z : ◌≡◌ {A = ℕ} 0 1 = cc in absurd (omega arith)

  lines_told : (q : Bool) (h : HeadLine) → cond q (faulty (fault 0 F.Edition)) (rows_behind h) ≡ rows e lengths area → Told h e area
  lines_told true h p = let z : ◌≡◌ {A = ℕ} 0 1 = cc in absurd (omega arith)
  lines_told false h p = behind_told h (head_of h.number h.line) refl p

  pub text_told : (text : List ℕ) → text_read text ≡ rows e lengths area → Told (head_line 0 (text_lines text)) e area
  unfolding text_read
  text_told text q = by (ltb longest_text (length text)) q
    where
      by : (b : Bool) → cond b (faulty (fault 0 F.Long)) (lines_read 0 (text_lines text)) ≡ rows e lengths area → Told (head_line 0 (text_lines text)) e area
      by true p = let z : ◌≡◌ {A = ℕ} 0 1 = cc in absurd (omega arith)
      by false p = lines_told (eqb (head_line 0 (text_lines text)).number 0) (head_line 0 (text_lines text)) (sym (by_head 0 (text_lines text)) ∙ p)
