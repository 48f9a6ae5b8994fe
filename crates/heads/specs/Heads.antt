-- The first line of a text that counts: "`edition` and its number; the character behind that word is the separator of the file: comma, semicolon or tab".
-- Assumes nothing.
use Rattle.std.specs.Prelude.{ℕ, Bool, false, cond, ◌&&◌, ◌||◌, List, [], take, drop, get_or, eqb, Option, Some, None, Result, Ok, Err}
use Rattle.phrases.specs.Ascii.{codes}
use Rattle.cells.specs.Lines.{part}
use Rattle.cells.specs.Cells.{front_off, cell_at, found_in, is_empty_line, is_note, same_word}
use Rattle.numerals.specs.Numerals.{read_number}
use Rattle.numerals.specs.declared.NumberFault.{NumberFault}
use Rattle.numerals.specs.declared.NumberFault.TheVariants.{NoNumber, ManyDecimals, Large}
use Rattle.rowtext.specs.declared.FieldFault.{FieldFault}
use Rattle.rowtext.specs.declared.FieldFault.TheVariants as Field
use Rattle.heads.specs.declared.Fault.{Fault}
use Rattle.heads.specs.declared.Fault.TheVariants as F
use Rattle.heads.specs.declared.TextFault.{TextFault}
use Rattle.heads.specs.declared.Head.{Head}

-- "Passed over": "lines of nothing but commas, semicolons, tabs and blanks, and lines whose first field begins with `#`"
abbrev pub is_passed : ℕ → List ℕ → Bool
is_passed sep l = is_empty_line l || is_note sep l

-- a fault of a line
abbrev pub fault : ℕ → Fault → TextFault
fault line f = record { line = line; fault = f }

-- by the number of its word: "1 `long`, 2 `edition`, 3 `kind`, 4 `order`, 5 `rows`, 6 `fields`, 7 `unit`, 8 `number`, 9 `decimals`, 10 `large`";
-- 7 to 10 are of a field of a row
abbrev pub field_number : FieldFault → ℕ
field_number Field.Unit = 7
field_number (Field.Number NoNumber) = 8
field_number (Field.Number ManyDecimals) = 9
field_number (Field.Number Large) = 10

abbrev pub fault_number : Fault → ℕ
fault_number F.Long = 1
fault_number F.Edition = 2
fault_number F.Kind = 3
fault_number F.Order = 4
fault_number F.Rows = 5
fault_number (F.Fields due found) = 6
fault_number (F.Cell kind field f) = field_number f

abbrev pub edition_word : List ℕ
edition_word = codes "edition"

-- "the word `edition` (any letters, capital or not; or the same in double quotes)": what stands behind it; nothing, where it does not stand there
unfoldable pub behind_edition : List ℕ → List ℕ
behind_edition l =
    cond (same_word edition_word (take 7 l)) (drop 7 l)
    (cond (eqb (get_or l 0 0) 34 && same_word edition_word (part 1 8 l) && eqb (get_or l 8 0) 34) (drop 9 l) [])

-- "then any spaces, then the separator: comma, semicolon or tab". Spaces alone are blanks where a tab separates
abbrev pub is_separator : ℕ → Bool
is_separator c = eqb c 44 || eqb c 59 || eqb c 9

unfoldable pub separator_at : List ℕ → Option ℕ
separator_at l = cond (is_separator (get_or l 0 0)) (Some (get_or l 0 0)) None

-- "behind leading blanks (spaces, tabs)": a comma as separator says just that
unfoldable pub separator_in : List ℕ → Option ℕ
separator_in l = separator_at (front_off 9 (behind_edition (front_off 44 l)))

-- what a good first line says
abbrev pub edition_by : ℕ → ℕ → Result Head TextFault
edition_by e sep = Ok (record { edition = e; separator = sep })

-- "The field behind the word has to be digits alone, at most 4,294,967,295, else fault 2. Then, if the fields behind the word are not exactly one: fault 6 `fields`, due 1."
-- A number without decimals is digits alone
abbrev pub head_by : ℕ → ℕ → ℕ → Result ℕ NumberFault → Result Head TextFault
head_by n sep found (Ok e) = cond (eqb found 1) (edition_by e sep) (Err (fault n (F.Fields 1 found)))
head_by n sep found (Err f) = Err (fault n F.Edition)

abbrev pub head_behind : ℕ → List ℕ → Option ℕ → Result Head TextFault
head_behind n l None = Err (fault n F.Edition)
head_behind n l (Some sep) = head_by n sep (found_in sep l) (read_number false 0 (cell_at sep 1 l))

-- line number n, the first that counts
unfoldable pub head_of : ℕ → List ℕ → Result Head TextFault
head_of n l = head_behind n l (separator_in l)

-- ---- as the code goes: the word in double quotes
abbrev pub is_quoted_word : List ℕ → Bool
is_quoted_word l = eqb (get_or l 0 0) 34 && same_word edition_word (part 1 8 l) && eqb (get_or l 8 0) 34
