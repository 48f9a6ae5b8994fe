-- Worked examples: the definitions compute. Assumes nothing.
use Rattle.std.specs.Prelude.{ℕ, ◌≡◌, refl, true, false, List, [], ◌∷◌}
use Prim.Native.String as S
use Prim.Native.String.{String}
use Prim.Native.Char.{code}
use Rattle.cells.specs.Lines.{text_start, last_of, lines_of, text_lines}
use Rattle.cells.specs.Cells.{fields_of, blank_in, front_off, end_off, quotes_off, cleaned, cell_at, cell_count, up_to_last, found_in}
use Rattle.cells.specs.Cells.{is_filler, is_empty_line, begins_note, is_note, small, same_word}

-- a text of ASCII as the bytes that it is
abbrev bytes : String → List ℕ
bytes S.[] = []
bytes (S.◌∷◌ c s) = code c ∷ bytes s

-- two lines, ended by LF, by CR and LF, behind the mark, and without the last end; no line, and an empty one
two_lines : List (List ℕ)
two_lines = bytes "edition,3" ∷ bytes "soil,1" ∷ []

by_lf : text_lines (bytes "edition,3\nsoil,1\n") ≡ two_lines
unfolding two_lines lines_of text_start
by_lf = refl

by_crlf : text_lines (bytes "edition,3\r\nsoil,1\r\n") ≡ two_lines
unfolding two_lines lines_of text_start
by_crlf = refl

marked : text_lines (239 ∷ 187 ∷ 191 ∷ bytes "edition,3\r\nsoil,1\r\n") ≡ two_lines
unfolding two_lines lines_of text_start
marked = refl

not_ended : text_lines (bytes "edition,3\nsoil,1") ≡ two_lines
unfolding two_lines lines_of text_start
not_ended = refl

none : (text_lines [] ≡ []) × (text_lines (bytes "\n") ≡ [] ∷ [])
unfolding lines_of text_start
none = (refl, refl)

-- a CR that has no LF behind it stays, and of two only the last is no part of the line
lone : (text_lines (bytes "a\rb\r") ≡ bytes "a\rb\r" ∷ []) × (text_lines (bytes "a\r\r\n") ≡ bytes "a\r" ∷ [])
unfolding lines_of text_start
lone = (refl, refl)

-- three numbers, one of them not there, and separators at the end that a spreadsheet leaves
row : List ℕ
row = bytes "soil, 7,,\"1.50\",, "

row_found : (found_in 44 row ≡ 3) × (cell_count 44 row ≡ 6)
unfolding row fields_of up_to_last front_off end_off quotes_off blank_in last_of
row_found = (refl, refl)

row-cells : (cell_at 44 0 row ≡ bytes "soil") × (cell_at 44 1 row ≡ bytes "7") × (cell_at 44 2 row ≡ []) × (cell_at 44 3 row ≡ bytes "1.50")
unfolding row fields_of front_off end_off quotes_off blank_in last_of
row-cells = (refl, refl, refl, refl)

-- quotes around a field go, also behind blanks; blanks inside them stay, and so does a quote by itself or at one end
quotes : (cleaned 44 (bytes "\"12\"") ≡ bytes "12") × (cleaned 44 (bytes "  \"12\" ") ≡ bytes "12") × (cleaned 44 (bytes "\" 12 \"") ≡ bytes " 12 ")
unfolding front_off end_off quotes_off blank_in last_of
quotes = (refl, refl, refl)

stays : (cleaned 44 (bytes "\"") ≡ bytes "\"") × (cleaned 44 (bytes "\"12") ≡ bytes "\"12") × (cleaned 44 (bytes "12\"") ≡ bytes "12\"")
unfolding front_off end_off quotes_off blank_in last_of
stays = (refl, refl, refl)

-- a tab is a blank beside commas, and separates where it is the separator
tabs : (cell_at 44 1 (bytes "soil,\t12\t") ≡ bytes "12") × (cell_at 9 2 (bytes "soil\t\t12") ≡ bytes "12") × (found_in 9 (bytes "soil\t\t12\t") ≡ 2)
unfolding fields_of up_to_last front_off end_off quotes_off blank_in last_of
tabs = (refl, refl, refl)

-- a field is cleaned of blanks alone: a tab stays beside tabs
tab_stays : cleaned 9 (bytes " \t12 ") ≡ bytes "\t12"
unfolding front_off end_off quotes_off blank_in last_of
tab_stays = refl

notes : (is_note 44 (bytes "# a, b") ≡ true) × (is_note 44 (bytes " \t\"# a, b\"") ≡ true) × (is_note 9 (bytes "\t# a") ≡ false)
unfolding front_off blank_in begins_note
notes = (refl, refl, refl)

empty_lines : (is_empty_line (bytes ",;,") ≡ true) × (is_empty_line (bytes " \t") ≡ true) × (is_empty_line [] ≡ true) × (is_empty_line (bytes ",0,") ≡ false)
unfolding is_empty_line is_filler
empty_lines = (refl, refl, refl, refl)

words : (same_word (bytes "edition") (bytes "EDITION") ≡ true) × (same_word (bytes "edition") (bytes "editions") ≡ false)
unfolding same_word small
words = (refl, refl)
