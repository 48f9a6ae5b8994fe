-- What it is that a line of a text says a row: "`line N`, the line of that row". Assumes nothing.
use Rattle.std.specs.Prelude.{ℕ, ◌-◌, ◌≤◌, ◌<◌, ◌≡◌, false, List, [], length, get_or}
use Rattle.cells.specs.Lines.{text_lines}
use Rattle.rowtext.specs.Said.{numbers_said}
use Rattle.heads.specs.Heads.{is_passed, edition_by, head_of}
use Rattle.texts.specs.Texts.{kind_in}
use Rattle.texts.specs.Steps.{head_line}

-- line n of a text, the first being line 1
abbrev pub line_at : List ℕ → ℕ → List ℕ
line_at text n = get_or (text_lines text) (n - 1) []

-- line n of a text for a return of this edition says a row of this kind, of these numbers
pub record LineSays (text : List ℕ) (edition kind : ℕ) (row : List ℕ) (n : ℕ) : Type 0 where
  -- the character that separates the fields of the text
  pub separator : ℕ
  -- it is the one of the first line that counts, which says the edition
  pub head : head_of (head_line 0 (text_lines text)).number (head_line 0 (text_lines text)).line ≡ edition_by edition separator
  -- there is such a first line: the lines are counted from 1, and its number is not 0
  pub head_there : 1 ≤ (head_line 0 (text_lines text)).number
  -- line n stands behind it
  pub behind-head : (head_line 0 (text_lines text)).number < n
  -- and there is a line n: its number is at least 1
  pub from_one : 1 ≤ n
  -- and no higher than the text has lines
  pub inside : n ≤ length (text_lines text)
  -- it is not passed over: neither empty nor a note
  pub counts : is_passed separator (line_at text n) ≡ false
  -- the kind that it names is the row's
  pub kind-named : kind_in separator (line_at text n) ≡ kind
  -- the numbers that its fields say, as fields of that kind, are the row's, all of them and in their order
  pub numbers-said : numbers_said separator (kind_in separator (line_at text n)) (line_at text n) ≡ row
