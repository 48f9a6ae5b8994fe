-- The text of an accepted return: "`unpack` prints `edition,N`, then for each kind that has rows a line `# KIND,id,area (kha),..` with the names and units and the rows,
-- all decimals written, comma and point." Over row lists as they lie in lent memory. Assumes nothing.
use Rattle.std.specs.Prelude.{ℕ, zero, suc, cond, List, [], ◌∷◌, ◌++◌, length, get_or, eqb}
use Rattle.form.specs.Layout.{numbers_of}
use Rattle.form.specs.Block as Block
use Rattle.form.specs.Records.{unit_code}
use Rattle.decimal.specs.Digits.{decimal}
use Rattle.phrases.specs.Ascii.{codes}
use Rattle.filing.specs.Lists.{Lists, rows_in, row_of}
use Rattle.rows.specs.Reading.{row_lists}
use Rattle.cells.specs.Lines.{ended}
use Rattle.cells.specs.Cells.{is_empty, joined}
use Rattle.numerals.specs.Written.{printed}
use Rattle.naming.specs.Names.{kind_name, field_name}
use Rattle.columns.specs.Columns.{Column, columns_of, decimals_of, is_unit}

-- "A stock row's unit is the word `land` or `trees`"
unfoldable pub unit_word : ℕ → List ℕ
unit_word code = cond (eqb code 1) (codes "trees") (codes "land")

-- field i of a row, "all decimals written"; the unit is a stock row's second number, and other kinds don't ask for it
unfoldable pub field_text : ℕ → List ℕ → ℕ → List ℕ
field_text kind r i = cond (is_unit kind i) (unit_word (get_or r i 0)) (printed (decimals_of kind (unit_code r) i) (get_or r i 0))

-- the first n fields of a row
unfoldable pub field_texts : ℕ → List ℕ → ℕ → List (List ℕ)
field_texts kind r zero = []
field_texts kind r (suc n) = field_texts kind r n ++ field_text kind r n ∷ []

-- a row's line: the kind's name and the fields, commas between
abbrev pub row_line : ℕ → List ℕ → List ℕ
row_line kind r = joined 44 (kind_name kind ∷ field_texts kind r (numbers_of kind))

-- the note of a kind: a field's name, with its unit in brackets where it has one; a unit goes by no row here
unfoldable pub heading : List ℕ → List ℕ → List ℕ
heading name unit = cond (is_empty unit) name (name ++ (codes " (" ++ (unit ++ codes ")")))

unfoldable pub headings : ℕ → ℕ → List Column → List (List ℕ)
headings kind i [] = []
headings kind i (c ∷ cs) = heading (field_name kind i) c.unit ∷ headings kind (suc i) cs

unfoldable pub note_line : ℕ → List ℕ
note_line kind = joined 44 ((codes "# " ++ kind_name kind) ∷ headings kind 0 (columns_of kind 0))

-- the lines of the first n rows of a list, and those of a kind, "for each kind that has rows"
unfoldable pub row_lines_to : ℕ → List ℕ → ℕ → List (List ℕ)
row_lines_to kind r zero = []
row_lines_to kind r (suc n) = row_lines_to kind r n ++ row_line kind (row_of kind r n) ∷ []

unfoldable pub kind_lines : ℕ → List ℕ → List (List ℕ)
kind_lines kind r = cond (eqb (rows_in kind (length r)) 0) [] (note_line kind ∷ row_lines_to kind r (rows_in kind (length r)))

-- kind after kind, from one on
unfoldable pub lists_lines : ℕ → Lists → List (List ℕ)
lists_lines k [] = []
lists_lines k (r ∷ l) = kind_lines k r ++ lists_lines (suc k) l

-- the first line
abbrev pub edition_line : ℕ → List ℕ
edition_line edition = codes "edition," ++ decimal edition

-- the text of rows in an edition, and of the rows of a return
unfoldable pub lists_text : ℕ → Lists → List ℕ
lists_text edition l = ended (edition_line edition ∷ lists_lines 1 l)

abbrev pub unpacked_text : List ℕ → List ℕ
unpacked_text s = lists_text (Block.edition s 0) (row_lists s)
