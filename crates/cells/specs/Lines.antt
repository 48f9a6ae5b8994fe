-- A text and its lines. Bytes by number: LF is 10, CR is 13. Assumes nothing.
use Rattle.std.specs.Prelude.{ℕ, ◌-◌, ◌≤◌, ◌<◌, ◌≡◌, Bool, false, cond, ◌&&◌, ◌||◌, List, [], ◌∷◌, ◌++◌, length, take, drop, get_or, eqb}
use Rattle.cells.specs.declared.Line.{Line}

-- what stands from one place up to another
abbrev pub part : ℕ → ℕ → List ℕ → List ℕ
part from to l = take (to - from) (drop from l)

-- "EF BB BF at the very start is passed over": where the text begins, and the text from there
abbrev pub has_mark : List ℕ → Bool
has_mark l = eqb (get_or l 0 0) 239 && eqb (get_or l 1 0) 187 && eqb (get_or l 2 0) 191

unfoldable pub text_start : List ℕ → ℕ
text_start l = cond (has_mark l) 3 0

abbrev pub without_mark : List ℕ → List ℕ
without_mark l = drop (text_start l) l

-- the last byte; of nothing it is 0
unfoldable pub last_of : List ℕ → ℕ
last_of [] = 0
last_of (b ∷ []) = b
last_of (b ∷ c ∷ l) = last_of (c ∷ l)

-- a byte put before the first of some pieces; before none it is a piece by itself
abbrev pub onto : ℕ → List (List ℕ) → List (List ℕ)
onto b [] = (b ∷ []) ∷ []
onto b (p ∷ ps) = (b ∷ p) ∷ ps

-- "Lines: what stands before each LF, and what stands behind the last LF if it is not empty. A CR directly before an LF is no part of the line;
-- any other CR is a character like any other."
-- The ways on are bound first: what is bound waits, so that a literal text computes in as many steps as it has bytes
unfoldable pub lines_of : List ℕ → List (List ℕ)
lines_of [] = []
lines_of (b ∷ bs) =
    let more = lines_of bs in
    let longer = onto b more in
    cond (eqb b 10) ([] ∷ more) (cond (eqb b 13 && eqb (get_or bs 0 0) 10) more longer)

-- the lines of a text that may begin with the mark
abbrev pub text_lines : List ℕ → List (List ℕ)
text_lines text = lines_of (without_mark text)

-- lines as they are printed, with an LF behind each
unfoldable pub ended : List (List ℕ) → List ℕ
ended [] = []
ended (l ∷ ls) = l ++ 10 ∷ ended ls

-- whether a byte stands in a text: laws speak of lines without an LF, and of fields without the separator
unfoldable pub has : ℕ → List ℕ → Bool
has c [] = false
has c (b ∷ bs) = eqb b c || has c bs

-- the line that begins at a place before the text's end: where it stands without its end, and where the next begins
pub record LineAt (text : List ℕ) (at : ℕ) (r : Line) : Type 0 where
  pub starts : r.from ≡ at
  pub ordered : r.from ≤ r.to
  pub inside : r.to ≤ r.next
  pub onward : at < r.next
  pub within : r.next ≤ length text
  pub lines : lines_of (drop at text) ≡ part r.from r.to text ∷ lines_of (drop r.next text)
