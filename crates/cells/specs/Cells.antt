-- The fields of a line, and what is asked of lines and words. Bytes by number: tab 9, space 32, `"` 34, `#` 35, comma 44, semicolon 59. Assumes nothing.
use Rattle.std.specs.Prelude.{ℕ, zero, suc, ◌+◌, ◌-◌, ◌≤◌, ◌<◌, ◌≡◌, Bool, true, false, cond, not, ◌&&◌, ◌||◌, List, [], ◌∷◌, ◌++◌, length, drop, get_or, eqb, leb}
use Rattle.cells.specs.Lines.{part, onto, last_of}
use Rattle.cells.specs.declared.Cell.{Cell}
use Rattle.cells.specs.declared.Field.{Field}

-- what stands before the first separator, and what stands behind it: where there is none, all, and nothing
unfoldable pub up_to : ℕ → List ℕ → List ℕ
up_to sep [] = []
up_to sep (b ∷ bs) = cond (eqb b sep) [] (b ∷ up_to sep bs)

unfoldable pub behind : ℕ → List ℕ → List ℕ
behind sep [] = []
behind sep (b ∷ bs) = cond (eqb b sep) bs (behind sep bs)

-- "Its fields are what stands between separators. A separator inside quotes separates all the same."
unfoldable pub fields_of : ℕ → List ℕ → List (List ℕ)
fields_of sep [] = [] ∷ []
fields_of sep (b ∷ bs) =
    let more = fields_of sep bs in
    let longer = onto b more in
    cond (eqb b sep) ([] ∷ more) longer

-- "Blanks are spaces, and tabs where the separator is no tab"
unfoldable pub blank_in : ℕ → ℕ → Bool
blank_in sep c = eqb c 32 || (eqb c 9 && not (eqb sep 9))

-- "blanks off both ends": off the front, and off the end
unfoldable pub front_off : ℕ → List ℕ → List ℕ
front_off sep [] = []
front_off sep (b ∷ bs) = cond (blank_in sep b) (front_off sep bs) (b ∷ bs)

abbrev pub is_empty : List ℕ → Bool
is_empty l = eqb (length l) 0

unfoldable pub end_off : ℕ → List ℕ → List ℕ
end_off sep [] = []
end_off sep (b ∷ bs) =
    let more = end_off sep bs in
    cond (blank_in sep b && is_empty more) [] (b ∷ more)

-- "then, if it has at least two characters and begins and ends with `"`, these two off. Nothing else"
abbrev pub is_quoted : List ℕ → Bool
is_quoted l = leb 2 (length l) && eqb (get_or l 0 0) 34 && eqb (last_of l) 34

unfoldable pub quotes_off : List ℕ → List ℕ
quotes_off l = cond (is_quoted l) (part 1 (length l - 1) l) l

-- a field, cleaned
abbrev pub cleaned : ℕ → List ℕ → List ℕ
cleaned sep l = quotes_off (end_off sep (front_off sep l))

-- field i of a line, cleaned; past the last it is empty; and how many there are
abbrev pub cell_at : ℕ → ℕ → List ℕ → List ℕ
cell_at sep i l = cleaned sep (get_or (fields_of sep l) i [])

abbrev pub cell_count : ℕ → List ℕ → ℕ
cell_count sep l = length (fields_of sep l)

-- what stands from field i on: where a loop that goes from field to field is
unfoldable pub from_field : ℕ → ℕ → List ℕ → List ℕ
from_field sep zero l = l
from_field sep (suc i) l = behind sep (from_field sep i l)

-- "The fields behind the first word are counted up to the last one that is not empty when cleaned."
unfoldable pub up_to_last : ℕ → List (List ℕ) → ℕ
up_to_last sep [] = 0
up_to_last sep (f ∷ fs) =
    let more = up_to_last sep fs in
    cond (is_empty (cleaned sep f) && eqb more 0) 0 (suc more)

abbrev pub found_in : ℕ → List ℕ → ℕ
found_in sep l = up_to_last sep (drop 1 (fields_of sep l))

-- "a line of nothing but commas, semicolons, tabs and spaces (an empty one too)"
unfoldable pub is_filler : ℕ → Bool
is_filler b = eqb b 44 || eqb b 59 || eqb b 9 || eqb b 32

unfoldable pub is_empty_line : List ℕ → Bool
is_empty_line [] = true
is_empty_line (b ∷ bs) = is_filler b && is_empty_line bs

-- "a note: a line that behind its leading blanks begins with `#` or with `"#`"
unfoldable pub begins_note : List ℕ → Bool
begins_note l = eqb (get_or l 0 0) 35 || (eqb (get_or l 0 0) 34 && eqb (get_or l 1 0) 35)

abbrev pub is_note : ℕ → List ℕ → Bool
is_note sep l = begins_note (front_off sep l)

-- "letters made small": A to Z as a to z; and whether a word is this one, of small letters
unfoldable pub small : ℕ → ℕ
small c = cond (leb 65 c && leb c 90) (c + 32) c

unfoldable pub same_word : List ℕ → List ℕ → Bool
same_word [] [] = true
same_word [] (b ∷ l) = false
same_word (a ∷ w) [] = false
same_word (a ∷ w) (b ∷ l) = eqb a (small b) && same_word w l

-- some fields with the separator between them
unfoldable pub joined : ℕ → List (List ℕ) → List ℕ
joined sep [] = []
joined sep (f ∷ []) = f
joined sep (f ∷ g ∷ fs) = f ++ sep ∷ joined sep (g ∷ fs)

-- where the field, or the line, that begins at a place ends
pub record EndAt (sep : ℕ) (text : List ℕ) (at r : ℕ) : Type 0 where
  pub ordered : at ≤ r
  pub inside : r ≤ length text
  pub field : part at r text ≡ up_to sep (drop at text)
  pub rest : drop (r + 1) text ≡ behind sep (drop at text)

-- a place inside a part of a line, and what stands there
pub record CellIn (line : List ℕ) (from to : ℕ) (r : Cell) (what : List ℕ) : Type 0 where
  pub starts : from ≤ r.from
  pub ordered : r.from ≤ r.to
  pub ends : r.to ≤ to
  pub cell : part r.from r.to line ≡ what

-- where the cell of the field that begins at a place stands, and where the next field begins
pub record FieldAt (sep : ℕ) (line : List ℕ) (at : ℕ) (r : Field) : Type 0 where
  pub ordered : r.from ≤ r.to
  pub inside : r.to ≤ r.next
  pub onward : at < length line → at < r.next
  pub within : r.next ≤ length line
  pub cell : part r.from r.to line ≡ cleaned sep (up_to sep (drop at line))
  pub rest : drop r.next line ≡ behind sep (drop at line)
