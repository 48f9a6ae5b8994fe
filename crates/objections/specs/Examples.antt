-- Texts and what is said of them, as the checker computes it. Assumes nothing.
use Rattle.std.specs.Prelude.{ℕ, ◌≡◌, refl, List}
use Prim.Native.String.{String}
use Rattle.form.specs.First.{first}
use Rattle.form.specs.Layout.{kinds}
use Rattle.form.specs.Edition.{last_kind}
use Rattle.form.specs.Ruling.{ruling}
use Rattle.form.specs.Records.{bad_id}
use Rattle.filing.specs.Lists.{cut, total, filed_list, behind, filed_from}
use Rattle.lists.specs.Rules.{bad_list, bad_lengths, not_allowed, list_rules}
use Rattle.decimal.specs.Digits.{digits}
use Rattle.phrases.specs.Ascii.{codes}
use Rattle.phrases.specs.Lines.{refused_line, lines_text}
use Rattle.cells.specs.Lines.{text_start, last_of, lines_of}
use Rattle.cells.specs.Cells.{fields_of, blank_in, front_off, end_off, quotes_off, up_to_last, is_filler, is_empty_line, begins_note, small, same_word}
use Rattle.numerals.specs.Numerals.{is_digit, is_mark, digits_in, with_digits, is_number, unless_large, read_parts, read_number}
use Rattle.columns.specs.Columns.{is_unit, named_from}
use Rattle.rowtext.specs.Said.{unit_said, cell_said, first_numbers, row_said}
use Rattle.heads.specs.Heads.{behind_edition, separator_at, separator_in, head_of}
use Rattle.texts.specs.Texts.{checked_kind, checked, rows_from, lines_read, text_read, row_line_at, row_line_in, row_line}
use Rattle.clashes.specs.Clashes.{clash_of}
use Rattle.clashes.specs.Stands.{index_from}
use Rattle.objections.specs.Objections.{pack_why}

unfoldable why : String → List ℕ
unfolding first kinds last_kind ruling bad_id cut total filed_list behind filed_from bad_list bad_lengths not_allowed list_rules digits refused_line lines_text text_start last_of lines_of fields_of blank_in front_off end_off quotes_off up_to_last is_filler is_empty_line begins_note small same_word is_digit is_mark digits_in with_digits is_number unless_large read_parts read_number is_unit named_from unit_said cell_said first_numbers row_said behind_edition separator_at separator_in head_of checked_kind checked rows_from lines_read text_read row_line_at row_line_in row_line clash_of index_from
why text = pack_why (codes text)

-- a fault of the text: its line and word, then what is told with it
no_kind : why "edition,3\n\nstocks,7,land,2,3,0.5\n" ≡ codes "refused line 3 kind\n"
unfolding why
no_kind = refl

few_fields : why "edition,3\nstock,7,land\n" ≡ codes "refused line 2 fields\ndue 5\nfound 2\n"
unfolding why
few_fields = refl

no_unit : why "edition,3\nstock,7,acres,2,3,0.5\n" ≡ codes "refused line 2 unit\nfield 1\nfield_name unit_code\n"
unfolding why
no_unit = refl

-- writing's 10: an edition that is none, and no parameters
no_edition : why "edition,9\n" ≡ codes "refused 10 0\nedition 9\n"
unfolding why
no_edition = refl

no_parameters : why "edition,3\nstock,7,land,2,3,0.5\n" ≡ codes "refused 10 4\nkind_name parameters\nrows 0\n"
unfolding why
no_parameters = refl

-- 5, with the line of the row
same_id : why "edition,3\nstock,7,land,2,3,0.5\n\nstock,7,land,2,3,0.5\nparameters,0.01,0.004,0.1,0.01,0.007,0.121\n" ≡ codes "refused 5 1\nblock 0\nrow 1\nkind_name stock\nid_before 7\nid 7\nline 4\n"
unfolding why
same_id = refl
