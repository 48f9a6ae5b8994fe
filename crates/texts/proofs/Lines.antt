-- The lines of a text, as the code goes from line to line. Assumes nothing.
--     by_head, row-line_by_head  what a text says, and the line of a row, by its first line that counts
--     rows_behind_lem, row-line-behind     by what that line says
--     long-text, no_first, by_first, row-line-long, row-line-none, row-line-first     the same of a whole text, as the code has that line
--     Looking, look_start, look-past, look_here, look-end     a loop that looks for that line
--     Seeking, seek_past, seek_more, seek_here, seek_end      a loop that looks for the line of a row
use Prim.Native.Nat.{ℕ, suc, ◌+◌, ◌-◌, ◌≤◌, ◌<◌}
use mathlib.Core.Path.{◌≡◌, refl, sym, ap, ◌∙◌}
use mathlib.Core.Bool.{Bool, true, false, cond}
use mathlib.Core.List.{List, [], ◌∷◌}
use native.Mathlib.Numerals.{add-one}
use native.Mathlib.Omega.{arith}
use lib.Dec.{eqb}
use lib.ListN.{length, drop}
use borrow.Author.Tests.{eq-eqb, ne_eqb, lt-ltb, le-ltb}
use Rattle.std.specs.Prelude.{Option, Some, None, Result, Ok, Err}
use Rattle.form.proofs.Tests.{taken, left as passed-by}
use Rattle.cells.specs.Lines.{part, text_start, lines_of, text_lines, LineAt}
use Rattle.cells.specs.declared.Line.{Line}
use Rattle.cells.proofs.LineLaws.{lines_end}
use Rattle.heads.specs.Heads.{is_passed, fault, head_of}
use Rattle.heads.specs.declared.Fault.TheVariants as F
use Rattle.heads.specs.declared.Head.{Head}
use Rattle.heads.specs.declared.TextFault.{TextFault}
use Rattle.texts.specs.declared.First.{First}
use Rattle.texts.specs.Texts.{TextRead, faulty, rows_by, lines_read, longest_text, text_read, row_line_at, row_line_by, row_line_in, row_line}
use Rattle.texts.specs.Steps.{HeadLine, head_line, first_as, place_as, rows_behind, row_line_behind}

-- ---- by the first line that counts

pub by_head : (n : ℕ) (ls : List (List ℕ)) → lines_read n ls ≡ cond (eqb (head_line n ls).number 0) (faulty (fault 0 F.Edition)) (rows_behind (head_line n ls))
unfolding lines_read head_line
by_head n [] = refl
by_head n (l ∷ ls) = by (is_passed 44 l) (by_head (suc n) ls)
  where
    other : HeadLine
    other = record { number = suc n; line = l; behind = ls }

    by : (p : Bool) → lines_read (suc n) ls ≡ cond (eqb (head_line (suc n) ls).number 0) (faulty (fault 0 F.Edition)) (rows_behind (head_line (suc n) ls))
        → cond p (lines_read (suc n) ls) (rows_by (head_of (suc n) l) (suc n) ls)
        ≡ cond (eqb (cond p (head_line (suc n) ls) other).number 0) (faulty (fault 0 F.Edition)) (rows_behind (cond p (head_line (suc n) ls) other))
    by true more = more
    by false more = sym (ap (λ (q : Bool). cond q (faulty (fault 0 F.Edition)) (rows_behind other)) (ne_eqb (suc n) 0 (λ z. omega (arith, z))))

no_line : (h : Result Head TextFault) (j n : ℕ) → row_line_by h j n [] ≡ 0
unfolding row_line_at
no_line (Ok h) j n = refl
no_line (Err f) j n = refl

pub row-line_by_head : (j n : ℕ) (ls : List (List ℕ)) → row_line_in j n ls ≡ row_line_behind j (head_line n ls)
unfolding row_line_in head_line
row-line_by_head j n [] = sym (no_line (head_of 0 []) j 0)
row-line_by_head j n (l ∷ ls) = by (is_passed 44 l) (row-line_by_head j (suc n) ls)
  where
    other : HeadLine
    other = record { number = suc n; line = l; behind = ls }

    by : (p : Bool) → row_line_in j (suc n) ls ≡ row_line_behind j (head_line (suc n) ls)
        → cond p (row_line_in j (suc n) ls) (row_line_by (head_of (suc n) l) j (suc n) ls) ≡ row_line_behind j (cond p (head_line (suc n) ls) other)
    by true more = more
    by false more = refl

-- what stands behind it, by what it says
module _ (text : List ℕ) (first : First) {h g : Result Head TextFault} (e : h ≡ g) (q : h ≡ head_of first.number (part first.from first.to text)) where
  pub rows_behind_lem : {x : TextRead} → x ≡ rows_by g first.number (lines_of (drop first.next text)) → x ≡ rows_behind (place_as text first)
  rows_behind_lem w = w ∙ ap (λ (y : Result Head TextFault). rows_by y first.number (lines_of (drop first.next text))) (sym e ∙ q)

  pub row-line-behind : (j : ℕ) {x : ℕ} → x ≡ row_line_by g j first.number (lines_of (drop first.next text)) → x ≡ row_line_behind j (place_as text first)
  row-line-behind j w = w ∙ ap (λ (y : Result Head TextFault). row_line_by y j first.number (lines_of (drop first.next text))) (sym e ∙ q)

-- ---- of a whole text

module _ (text : List ℕ) where
  pub long-text : longest_text < length text → {f : TextFault} → f ≡ fault 0 F.Long → faulty f ≡ text_read text
  unfolding text_read
  long-text h e = taken _ (lt-ltb longest_text (length text) h) (ap faulty e)

  pub row-line-long : (j : ℕ) → longest_text < length text → 0 ≡ row_line j text
  unfolding row_line
  row-line-long j h = taken _ (lt-ltb longest_text (length text) h) refl

  module _ (h : length text ≤ longest_text) (first : Option First) (e : first_as text first ≡ head_line 0 (text_lines text)) where
    first-lines : cond (eqb (first_as text first).number 0) (faulty (fault 0 F.Edition)) (rows_behind (first_as text first)) ≡ text_read text
    unfolding text_read
    first-lines =
        passed-by _ (le-ltb longest_text (length text) h)
        (ap (λ (x : HeadLine). cond (eqb x.number 0) (faulty (fault 0 F.Edition)) (rows_behind x)) e ∙ sym (by_head 0 (text_lines text)))

    pub no_first : first ≡ None → faulty (fault 0 F.Edition) ≡ text_read text
    no_first z = taken _ (eq-eqb (first_as text first).number 0 (ap (λ (x : Option First). (first_as text x).number) z)) refl ∙ first-lines

    as_place : {r : First} → first ≡ Some r → first_as text first ≡ place_as text r
    as_place z = ap (first_as text) z

    pub by_first : {r : First} → first ≡ Some r → 0 < r.number → {x : TextRead} → x ≡ rows_behind (place_as text r) → x ≡ text_read text
    by_first z s q =
        passed-by _ (ne_eqb (first_as text first).number 0 (λ y. omega (arith, y, s, ap (λ (l : HeadLine). l.number) (as_place z)))) (q ∙ ap rows_behind (sym (as_place z)))
        ∙ first-lines

    line_first : (j : ℕ) → row_line_behind j (first_as text first) ≡ row_line j text
    unfolding row_line
    line_first j = passed-by _ (le-ltb longest_text (length text) h) (ap (row_line_behind j) e ∙ sym (row-line_by_head j 0 (text_lines text)))

    pub row-line-first : (j : ℕ) {r : First} → first ≡ Some r → {x : ℕ} → x ≡ row_line_behind j (place_as text r) → x ≡ row_line j text
    row-line-first j z q = q ∙ ap (row_line_behind j) (sym (as_place z)) ∙ line_first j

    pub row-line-none : (j : ℕ) → first ≡ None → 0 ≡ row_line j text
    row-line-none j z = sym (no_line (head_of 0 []) j 0) ∙ ap (λ (x : Option First). row_line_behind j (first_as text x)) (sym z) ∙ line_first j

-- ---- the loop that looks for it: so many lines are passed over

pub record Looking (text : List ℕ) (from n : ℕ) : Type 0 where
  pub within : from ≤ length text
  pub counted : n ≤ from
  pub same : head_line n (lines_of (drop from text)) ≡ head_line 0 (text_lines text)

pub look_start : (text : List ℕ) (from : ℕ) → from ≡ text_start text → from ≤ length text → Looking text from 0
look_start text from e h = record { within = h; counted = omega arith; same = ap (λ (k : ℕ). head_line 0 (lines_of (drop k text))) e }

module _ (text : List ℕ) (from n : ℕ) (c : Looking text from n) where
  pub look-end : length text ≤ from → first_as text None ≡ head_line 0 (text_lines text)
  unfolding head_line
  look-end h = sym (ap (head_line n) (lines_end text from h)) ∙ c.same

  module _ (r : Line) (l : LineAt text from r) where
    here : head_line n (part r.from r.to text ∷ lines_of (drop r.next text)) ≡ head_line 0 (text_lines text)
    here = sym (ap (head_line n) l.lines) ∙ c.same

    pub look-past : is_passed 44 (part r.from r.to text) ≡ true → Looking text r.next (n + 1)
    unfolding head_line
    look-past p = record {
      within = l.within;
      counted = omega (arith, c.counted, l.onward);
      same = rw add-one (sym (rw p) ∙ here);
    }

    pub look_here : is_passed 44 (part r.from r.to text) ≡ false
        → first_as text (Some (record { number = n + 1; from = r.from; to = r.to; next = r.next })) ≡ head_line 0 (text_lines text)
    unfolding head_line
    look_here p = rw add-one (sym (rw p) ∙ here)

-- ---- the loop that looks for the line of a row: so many rows are to come before it

module _ (text : List ℕ) (sep at n index : ℕ) where
  pub record Seeking (from number left : ℕ) : Type 0 where
    pub within : from ≤ length text
    pub counted : number ≤ from
    pub same : row_line_at sep left number (lines_of (drop from text)) ≡ row_line_at sep index n (lines_of (drop at text))

  module _ (from number left : ℕ) (c : Seeking from number left) where
    pub seek_end : length text ≤ from → 0 ≡ row_line_at sep index n (lines_of (drop at text))
    unfolding row_line_at
    seek_end h = sym (ap (row_line_at sep left number) (lines_end text from h)) ∙ c.same

    module _ (r : Line) (l : LineAt text from r) where
      abbrev line : List ℕ
      line = part r.from r.to text

      abbrev more : ℕ → ℕ
      more j = row_line_at sep j (suc number) (lines_of (drop r.next text))

      next : cond (is_passed sep line) (more left) (cond (eqb left 0) (suc number) (more (left - 1))) ≡ row_line_at sep index n (lines_of (drop at text))
      unfolding row_line_at
      next = sym (ap (row_line_at sep left number) l.lines) ∙ c.same

      onward : (j : ℕ) → more j ≡ row_line_at sep index n (lines_of (drop at text)) → Seeking r.next (number + 1) j
      onward j e = record { within = l.within; counted = omega (arith, c.counted, l.onward); same = rw add-one e }

      pub seek_past : is_passed sep line ≡ true → Seeking r.next (number + 1) left
      seek_past p = onward left (taken _ p refl ∙ next)

      module _ (p : is_passed sep line ≡ false) where
        pub seek_here : left ≡ 0 → number + 1 ≡ row_line_at sep index n (lines_of (drop at text))
        seek_here z = add-one number ∙ passed-by _ p (taken _ (eq-eqb left 0 z) refl) ∙ next

        pub seek_more : (left ≡ 0 → ⊥) → Seeking r.next (number + 1) (left - 1)
        seek_more z = onward (left - 1) (passed-by _ p (passed-by _ (ne_eqb left 0 z) refl) ∙ next)
