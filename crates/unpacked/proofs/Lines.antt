-- Lines of rows, one field and one row after the other. Assumes nothing.
--     tail_to           the first fields of a row, a comma before each; tail_none, tail_more; line_is, behind the kind's name they are the row's line
--     ended_append     lines behind lines; rows_none, rows_more, one row more
--     row_is, row-long     a row cut from a kind's rows, as the code does it
--     no_lines, some_lines    a kind's lines
--     text_is          the first line, and those of the kinds
use Prim.Native.Nat.{ℕ, zero, suc, ◌+◌, ◌-◌, ◌*◌, ◌≤◌}
use mathlib.Core.Path.{◌≡◌, refl, sym, ap, ◌∙◌}
use mathlib.Core.Bool.{Bool, cond}
use mathlib.Core.List.{List, [], ◌∷◌, ◌++◌, append-nil, append_assoc}
use native.Mathlib.Nat.{add-sub_cancel_left}
use native.Mathlib.Numerals.{add-one}
use native.Mathlib.Omega.{arith}
use lib.ListN.{length, take, drop, length-drop}
use lib.Seq.{length-take-le}
use borrow.Author.Tests.{eq-eqb, ne_eqb}
use lib.Dec.{eqb}
use Rattle.form.specs.Layout.{numbers_of}
use Rattle.filing.specs.Lists.{Lists, rows_in, row_of}
use Rattle.cells.specs.Lines.{ended}
use Rattle.cells.specs.Cells.{joined}
use Rattle.naming.specs.Names.{kind_name}
use Rattle.unpacked.specs.Unpacked.{field_text, field_texts, row_line, note_line, row_lines_to, kind_lines, lists_lines, edition_line, lists_text}

-- one field more behind others
joined-more : (sep : ℕ) (f : List ℕ) (fs : List (List ℕ)) (g : List ℕ) → joined sep (f ∷ (fs ++ g ∷ [])) ≡ joined sep (f ∷ fs) ++ sep ∷ g
unfolding joined
joined-more sep f [] g = refl
joined-more sep f (h ∷ fs) g =
    ap (λ (x : List ℕ). f ++ sep ∷ x) (joined-more sep h fs g) ∙ sym (append_assoc f (sep ∷ joined sep (h ∷ fs)) (sep ∷ g))

unfoldable pub tail_to : ℕ → List ℕ → ℕ → List ℕ
tail_to kind r zero = []
tail_to kind r (suc n) = tail_to kind r n ++ 44 ∷ field_text kind r n

module _ (kind : ℕ) (r : List ℕ) where
  pub tail_none : tail_to kind r 0 ≡ []
  unfolding tail_to
  tail_none = refl

  pub tail_more : (i : ℕ) → tail_to kind r i ++ 44 ∷ field_text kind r i ≡ tail_to kind r (i + 1)
  unfolding tail_to
  tail_more i = rw (add-one i)

  tail_is : (n : ℕ) → joined 44 (kind_name kind ∷ field_texts kind r n) ≡ kind_name kind ++ tail_to kind r n
  unfolding tail_to field_texts joined
  tail_is zero = sym (append-nil (kind_name kind))
  tail_is (suc n) =
      joined-more 44 (kind_name kind) (field_texts kind r n) (field_text kind r n)
      ∙ ap (λ (x : List ℕ). x ++ 44 ∷ field_text kind r n) (tail_is n)
      ∙ append_assoc (kind_name kind) (tail_to kind r n) (44 ∷ field_text kind r n)

  pub line_is : (n : ℕ) → n ≡ numbers_of kind → kind_name kind ++ tail_to kind r n ≡ row_line kind r
  line_is n e = ap (λ (k : ℕ). kind_name kind ++ tail_to kind r k) e ∙ sym (tail_is (numbers_of kind))

pub ended_append : (xs ys : List (List ℕ)) → ended (xs ++ ys) ≡ ended xs ++ ended ys
unfolding ended
ended_append [] ys = refl
ended_append (x ∷ xs) ys = ap (λ (t : List ℕ). x ++ 10 ∷ t) (ended_append xs ys) ∙ sym (append_assoc x (10 ∷ ended xs) (ended ys))

-- a line with its end, and lines behind it
pub ended-first : (x : List ℕ) (xs : List (List ℕ)) → ended (x ∷ xs) ≡ (x ++ 10 ∷ []) ++ ended xs
unfolding ended
ended-first x xs = sym (append_assoc x (10 ∷ []) (ended xs))

ended_one : (x : List ℕ) → ended (x ∷ []) ≡ x ++ 10 ∷ []
unfolding ended
ended_one x = refl

pub rows_none : (kind : ℕ) (r : List ℕ) → ended (row_lines_to kind r 0) ≡ []
unfolding ended row_lines_to
rows_none kind r = refl

pub rows_more : (kind : ℕ) (r : List ℕ) (i : ℕ) → ended (row_lines_to kind r i) ++ (row_line kind (row_of kind r i) ++ 10 ∷ []) ≡ ended (row_lines_to kind r (i + 1))
unfolding row_lines_to
rows_more kind r i =
    rw (add-one i)
    (ap (λ (x : List ℕ). ended (row_lines_to kind r i) ++ x) (sym (ended_one (row_line kind (row_of kind r i))))
    ∙ sym (ended_append (row_lines_to kind r i) (row_line kind (row_of kind r i) ∷ [])))

-- row i of the rows, from m * i on
module _ (kind : ℕ) (r : List ℕ) (i m : ℕ) (e : m ≡ numbers_of kind) where
  pub row_is : take (m * i + m - m * i) (drop (m * i) r) ≡ row_of kind r i
  row_is = rw (add-sub_cancel_left (m * i) m, e)

  pub row-long : m * i + m ≤ length r → length (take (m * i + m - m * i) (drop (m * i) r)) ≡ numbers_of kind
  row-long h = rw (add-sub_cancel_left (m * i) m) (length-take-le m (drop (m * i) r) (omega (arith, length-drop (m * i) r)) ∙ e)

module _ (kind : ℕ) (r : List ℕ) (n : ℕ) (e : n ≡ rows_in kind (length r)) where
  by_rows : kind_lines kind r ≡ cond (eqb n 0) [] (note_line kind ∷ row_lines_to kind r n)
  unfolding kind_lines
  by_rows = ap (λ (k : ℕ). cond (eqb k 0) [] (note_line kind ∷ row_lines_to kind r k)) (sym e)

  pub no_lines : n ≡ 0 → ended (kind_lines kind r) ≡ []
  unfolding ended
  no_lines z = ap ended (by_rows ∙ ap (λ (t : Bool). cond t [] (note_line kind ∷ row_lines_to kind r n)) (eq-eqb n 0 z))

  pub some_lines : (n ≡ 0 → ⊥) → ended (kind_lines kind r) ≡ (note_line kind ++ 10 ∷ []) ++ ended (row_lines_to kind r n)
  some_lines z =
      ap ended (by_rows ∙ ap (λ (t : Bool). cond t [] (note_line kind ∷ row_lines_to kind r n)) (ne_eqb n 0 z))
      ∙ ended-first (note_line kind) (row_lines_to kind r n)

pub text_is : (edition : ℕ) (l : Lists) → (edition_line edition ++ 10 ∷ []) ++ ended (lists_lines 1 l) ≡ lists_text edition l
unfolding lists_text
text_is edition l = sym (ended-first (edition_line edition) (lists_lines 1 l))
