-- Texts that the checker reads. Assumes nothing.
use Rattle.std.specs.Prelude.{ℕ, ◌≡◌, refl, [], ◌∷◌}
use Prim.Native.String.{String}
use Rattle.form.specs.First.{first}
use Rattle.form.specs.Layout.{kinds}
use Rattle.phrases.specs.Ascii.{codes}
use Rattle.cells.specs.Lines.{text_start, last_of, lines_of}
use Rattle.cells.specs.Cells.{fields_of, blank_in, front_off, end_off, quotes_off, up_to_last, is_filler, is_empty_line, begins_note, small, same_word}
use Rattle.numerals.specs.Numerals.{is_digit, is_mark, digits_in, with_digits, is_number, unless_large, read_parts, read_number}
use Rattle.columns.specs.Columns.{is_unit, named_from}
use Rattle.rowtext.specs.Said.{unit_said, cell_said, first_numbers, row_said}
use Rattle.rowtext.specs.declared.FieldFault.TheVariants as Field
use Rattle.heads.specs.declared.Fault.TheVariants as F
use Rattle.heads.specs.Heads.{fault, behind_edition, separator_at, separator_in, head_of}
use Rattle.texts.specs.Texts.{TextRead, rows, faulty, checked_kind, checked, rows_from, lines_read, text_read, row_line_at, row_line_in, row_line}

unfoldable read : String → TextRead
unfolding first kinds text_start last_of lines_of fields_of blank_in front_off end_off quotes_off up_to_last is_filler is_empty_line begins_note small same_word is_digit is_mark digits_in with_digits is_number unless_large read_parts read_number is_unit named_from unit_said cell_said first_numbers row_said behind_edition separator_at separator_in head_of checked_kind checked rows_from lines_read text_read
read text = text_read (codes text)

-- a text of one parameters row, and one of two stock rows
one_row : TextRead
one_row = rows 2 (0 ∷ 0 ∷ 0 ∷ 6 ∷ 0 ∷ 0 ∷ 0 ∷ 0 ∷ []) (10 ∷ 4 ∷ 100 ∷ 10 ∷ 7 ∷ 121 ∷ [])

by_lf : read "edition,2\nparameters,0.01,0.004,0.1,0.01,0.007,0.121\n" ≡ one_row
unfolding read one_row
by_lf = refl

by_crlf : read "edition,2\r\nparameters,0.01,0.004,0.1,0.01,0.007,0.121\r\n" ≡ one_row
unfolding read one_row
by_crlf = refl

-- the last line may lack its end, and a comma is a mark where a semicolon separates
not_ended : read "Edition;2\n\"Parameters\";0,01;0,004;0,1;0,01;0,007;0,121;;" ≡ one_row
unfolding read one_row
not_ended = refl

two_rows : read "edition,3\nstock,7,land,2,3,0.5\nstock,8,Trees,2,3,0.5" ≡ rows 3 (0 ∷ 10 ∷ 0 ∷ 0 ∷ 0 ∷ 0 ∷ 0 ∷ 0 ∷ []) (7 ∷ 0 ∷ 200 ∷ 300 ∷ 500 ∷ 8 ∷ 1 ∷ 20000 ∷ 3 ∷ 500 ∷ [])
unfolding read
two_rows = refl

no_rows : read "edition,1" ≡ rows 1 (0 ∷ 0 ∷ 0 ∷ 0 ∷ 0 ∷ 0 ∷ 0 ∷ 0 ∷ []) []
unfolding read
no_rows = refl

-- lines that are passed over are counted
behind-others : read "# a note\n\nedition,2\n,,\n# another\nstocks,1\n" ≡ faulty (fault 6 F.Kind)
unfolding read
behind-others = refl

none_counts : read "# a note\n,,\n" ≡ faulty (fault 0 F.Edition)
unfolding read
none_counts = refl

-- the faults of a line, in their order
twice : read "edition,2\nedition,2\n" ≡ faulty (fault 2 F.Edition)
unfolding read
twice = refl

out_of_order : read "edition,3\nstock,7,land,2,3,0.5\nconversion,1\n" ≡ faulty (fault 3 F.Order)
unfolding read
out_of_order = refl

few_fields : read "edition,3\nharvest,1,x\n" ≡ faulty (fault 2 (F.Fields 5 2))
unfolding read
few_fields = refl

no_unit : read "edition,3\nstock,7,acres,2,x,0.5\n" ≡ faulty (fault 2 (F.Cell 2 1 Field.Unit))
unfolding read
no_unit = refl

-- the lines of rows, counted from 0
unfoldable line_of : ℕ → String → ℕ
unfolding text_start last_of lines_of fields_of blank_in front_off end_off quotes_off up_to_last is_filler is_empty_line begins_note small same_word is_digit is_mark digits_in with_digits is_number unless_large read_parts read_number behind_edition separator_at separator_in head_of row_line_at row_line_in row_line
line_of j text = row_line j (codes text)

lines_of_rows : (line_of 0 "\nedition,3\n# a note\nstock,7\n\nstock,8" ≡ 4) × (line_of 1 "\nedition,3\n# a note\nstock,7\n\nstock,8" ≡ 6)
unfolding line_of
lines_of_rows = (refl, refl)

no_such_row : (line_of 2 "\nedition,3\n# a note\nstock,7\n\nstock,8" ≡ 0) × (line_of 0 "stock,7\nstock,8" ≡ 0)
unfolding line_of
no_such_row = (refl, refl)
