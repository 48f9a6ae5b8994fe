-- First lines that the checker reads. Assumes nothing.
use Prim.Native.String.{String}
use Rattle.std.specs.Prelude.{ℕ, ◌≡◌, refl, Result, Err}
use Rattle.phrases.specs.Ascii.{codes}
use Rattle.cells.specs.Lines.{last_of}
use Rattle.cells.specs.Cells.{fields_of, blank_in, front_off, end_off, quotes_off, up_to_last, small, same_word}
use Rattle.numerals.specs.Numerals.{is_digit, is_mark, digits_in, with_digits, is_number, unless_large, read_parts, read_number}
use Rattle.heads.specs.Heads.{fault, fault_number, edition_by, behind_edition, separator_at, separator_in, head_of}
use Rattle.heads.specs.declared.Head.{Head}
use Rattle.heads.specs.declared.TextFault.{TextFault}
use Rattle.heads.specs.declared.Fault.TheVariants as F
use Rattle.rowtext.specs.declared.FieldFault.TheVariants as Field
use Rattle.numerals.specs.declared.NumberFault.TheVariants.{NoNumber, ManyDecimals, Large}

-- a line of ASCII as the first that counts, in line 7
unfoldable read : String → Result Head TextFault
unfolding fields_of blank_in front_off end_off quotes_off last_of up_to_last small same_word is_digit is_mark digits_in with_digits is_number unless_large read_parts read_number behind_edition separator_at separator_in head_of
read line = head_of 7 (codes line)

-- the separator is the character behind the word; blanks around it and quotes do not matter, nor do capitals
by_comma : read "edition,3" ≡ edition_by 3 44
unfolding read
by_comma = refl

by_semicolon : read " \"Edition\" ;2" ≡ edition_by 2 59
unfolding read
by_semicolon = refl

by_tab : read "EDITION \t2\t" ≡ edition_by 2 9
unfolding read
by_tab = refl

-- a tab in front separates too where the tab is the separator: the word is then no first field
tab_in_front : read "\tedition\t2" ≡ Err (fault 7 F.Edition)
unfolding read
tab_in_front = refl

tab_a_blank : read "\tedition,2" ≡ edition_by 2 44
unfolding read
tab_a_blank = refl

-- no separator, no number, no whole number, one too large
no_separator : read "edition 3" ≡ Err (fault 7 F.Edition)
unfolding read
no_separator = refl

no_word : read "editions,3" ≡ Err (fault 7 F.Edition)
unfolding read
no_word = refl

half_quoted : read "\"edition,3" ≡ Err (fault 7 F.Edition)
unfolding read
half_quoted = refl

no_number : read "edition," ≡ Err (fault 7 F.Edition)
unfolding read
no_number = refl

with_decimals : read "edition,2.0" ≡ Err (fault 7 F.Edition)
unfolding read
with_decimals = refl

too_large : read "edition,4294967296" ≡ Err (fault 7 F.Edition)
unfolding read
too_large = refl

-- one field is due; empty ones behind it do not matter
two_fields : read "edition,2,5" ≡ Err (fault 7 (F.Fields 1 2))
unfolding read
two_fields = refl

empty_fields : read "edition,2,," ≡ edition_by 2 44
unfolding read
empty_fields = refl

-- each fault by its number, in the order of the words: with these the examples of a row and of a text say the number of each fault too
of_the_text : (fault_number F.Long ≡ 1) × (fault_number F.Edition ≡ 2)
of_the_text = (refl, refl)

of_a_line : (due found : ℕ) → (fault_number F.Kind ≡ 3) × (fault_number F.Order ≡ 4) × (fault_number F.Rows ≡ 5) × (fault_number (F.Fields due found) ≡ 6)
of_a_line due found = (refl, refl, refl, refl)

of_a_field : (kind field : ℕ) → (fault_number (F.Cell kind field Field.Unit) ≡ 7)
    × (fault_number (F.Cell kind field (Field.Number NoNumber)) ≡ 8)
    × (fault_number (F.Cell kind field (Field.Number ManyDecimals)) ≡ 9)
    × (fault_number (F.Cell kind field (Field.Number Large)) ≡ 10)
of_a_field kind field = (refl, refl, refl, refl)
