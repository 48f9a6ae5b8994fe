-- A text as an edition and rows, or its first fault: "the lowest line, and in a line the first of these". Assumes nothing.
use Rattle.std.specs.Prelude.{ℕ, suc, ◌+◌, ◌-◌, cond, not, List, [], ◌∷◌, ◌++◌, length, get_or, replicate, eqb, ltb, leb, Result, Ok, Err}
use Rattle.std.proofs.lemmas.List.Edits.{sets}
use Rattle.form.specs.Layout.{kinds, numbers_of}
use Rattle.cells.specs.Lines.{text_lines}
use Rattle.cells.specs.Cells.{cell_at, found_in, same_word}
use Rattle.columns.specs.Columns.{kind_named}
use Rattle.rowtext.specs.Said.{numbers_said, row_said}
use Rattle.rowtext.specs.declared.RowFault.{RowFault}
use Rattle.heads.specs.declared.TextFault.{TextFault}
use Rattle.heads.specs.declared.Fault.TheVariants as F
use Rattle.heads.specs.declared.Head.{Head}
use Rattle.heads.specs.Heads.{is_passed, fault, edition_word, head_of}

-- what a text says: an edition and rows, kind after kind in one area with the length of each kind's part beside them, as they are written; or its first fault
pub data TextRead : Type 0 where
  rows : (edition : ℕ) (lengths area : List ℕ) → TextRead
  faulty : TextFault → TextRead

-- the rows so far: the kind of the last row, 0 before the first, and how many rows of it there are; the lengths and the area
pub record Sofar : Type 0 where
  pub kind : ℕ
  pub count : ℕ
  pub lengths : List ℕ
  pub area : List ℕ

abbrev pub nothing : Sofar
nothing = record { kind = 0; count = 0; lengths = replicate kinds 0; area = [] }

-- the kind that a line names
abbrev pub kind_in : ℕ → List ℕ → ℕ
kind_in sep l = kind_named (cell_at sep 0 l)

-- how many rows of a kind there are before the next line: kinds rise or stay the same, so they are the last ones
abbrev pub count_of : Sofar → ℕ → ℕ
count_of st kind = cond (eqb kind st.kind) st.count 0

-- 7 to 10, or a row of the kind
abbrev pub checked_row : ℕ → ℕ → Result (Unit {0}) RowFault → Result ℕ TextFault
checked_row n kind (Ok done) = Ok kind
checked_row n kind (Err f) = Err (fault n (F.Cell kind f.field f.fault))

-- line number n behind the first that counts, of a kind: "4 `order`, 5 `rows` (the 33rd of a kind), 6 `fields`, then from left to right the first field at fault"
unfoldable pub checked_kind : ℕ → ℕ → Sofar → ℕ → List ℕ → Result ℕ TextFault
checked_kind sep kind st n l =
    cond (ltb kind st.kind) (Err (fault n F.Order))
    (cond (leb 32 (count_of st kind)) (Err (fault n F.Rows))
    (cond (not (eqb (found_in sep l) (numbers_of kind))) (Err (fault n (F.Fields (numbers_of kind) (found_in sep l))))
    (checked_row n kind (row_said sep kind l))))

-- and before these 2, "twice", and "3 `kind`"
unfoldable pub checked : ℕ → Sofar → ℕ → List ℕ → Result ℕ TextFault
checked sep st n l =
    cond (same_word edition_word (cell_at sep 0 l)) (Err (fault n F.Edition))
    (cond (eqb (kind_in sep l) 0) (Err (fault n F.Kind)) (checked_kind sep (kind_in sep l) st n l))

-- the rows with one more, of a kind
abbrev pub with_row : ℕ → Sofar → List ℕ → Sofar
with_row kind st numbers = record {
  kind = kind;
  count = suc (count_of st kind);
  lengths = sets st.lengths (kind - 1) ((get_or st.lengths (kind - 1) 0 + length numbers) ∷ []);
  area = st.area ++ numbers;
}

abbrev pub after_line : ℕ → Sofar → List ℕ → Sofar
after_line sep st l = with_row (kind_in sep l) st (numbers_said sep (kind_in sep l) l)

abbrev pub unless_fault : Result ℕ TextFault → TextRead → TextRead
unless_fault (Ok kind) more = more
unless_fault (Err f) more = faulty f

-- the lines behind the first that counts, of which n are behind us
unfoldable pub rows_from : ℕ → ℕ → ℕ → Sofar → List (List ℕ) → TextRead
rows_from edition sep n st [] = rows edition st.lengths st.area
rows_from edition sep n st (l ∷ ls) =
    let over = rows_from edition sep (suc n) st ls in
    let more = rows_from edition sep (suc n) (after_line sep st l) ls in
    cond (is_passed sep l) over (unless_fault (checked sep st (suc n) l) more)

abbrev pub rows_by : Result Head TextFault → ℕ → List (List ℕ) → TextRead
rows_by (Ok h) n ls = rows_from h.edition h.separator n nothing ls
rows_by (Err f) n ls = faulty f

-- all lines, of which n are behind us. "No line that counts: fault 2, line 0." Before the separator is known a tab is a blank, as where a comma separates
unfoldable pub lines_read : ℕ → List (List ℕ) → TextRead
lines_read n [] = faulty (fault 0 F.Edition)
lines_read n (l ∷ ls) = cond (is_passed 44 l) (lines_read (suc n) ls) (rows_by (head_of (suc n) l) (suc n) ls)

-- "1 `long` (above 131,072 bytes, line 0)"
abbrev pub longest_text : ℕ
longest_text = 131072

unfoldable pub text_read : List ℕ → TextRead
text_read text = cond (ltb longest_text (length text)) (faulty (fault 0 F.Long)) (lines_read 0 (text_lines text))

-- the line in which row j stands, counted from 0 over all kinds, of the lines behind the first that counts, of which n are behind us; 0 where there is none
unfoldable pub row_line_at : ℕ → ℕ → ℕ → List (List ℕ) → ℕ
row_line_at sep j n [] = 0
row_line_at sep j n (l ∷ ls) =
    let over = row_line_at sep j (suc n) ls in
    let more = row_line_at sep (j - 1) (suc n) ls in
    cond (is_passed sep l) over (cond (eqb j 0) (suc n) more)

abbrev pub row_line_by : Result Head TextFault → ℕ → ℕ → List (List ℕ) → ℕ
row_line_by (Ok h) j n ls = row_line_at h.separator j n ls
row_line_by (Err f) j n ls = 0

-- of all lines
unfoldable pub row_line_in : ℕ → ℕ → List (List ℕ) → ℕ
row_line_in j n [] = 0
row_line_in j n (l ∷ ls) = cond (is_passed 44 l) (row_line_in j (suc n) ls) (row_line_by (head_of (suc n) l) j (suc n) ls)

unfoldable pub row_line : ℕ → List ℕ → ℕ
row_line j text = cond (ltb longest_text (length text)) 0 (row_line_in j 0 (text_lines text))
