-- A text as the code goes through it: the first line that counts, one line by itself, and the rows in lent room. Assumes nothing.
use Rattle.std.specs.Prelude.{ℕ, suc, ◌+◌, ◌*◌, ◌≤◌, ◌<◌, ◌≡◌, cond, List, [], ◌∷◌, ◌++◌, length, take, drop, get_or, Option, Some, None, Result, Ok, Err}
use Rattle.std.proofs.lemmas.List.Edits.{sets}
use Rattle.form.specs.Layout.{kinds, numbers_of}
use Rattle.filing.specs.Lists.{total}
use Rattle.cells.specs.Lines.{part, lines_of}
use Rattle.rowtext.specs.Said.{numbers_said}
use Rattle.heads.specs.Heads.{is_passed, head_of}
use Rattle.heads.specs.declared.TextFault.{TextFault}
use Rattle.texts.specs.declared.Entered.{Entered}
use Rattle.texts.specs.declared.Kept.{Kept}
use Rattle.texts.specs.declared.First.{First}
use Rattle.texts.specs.Texts.{Sofar, TextRead, rows, faulty, kind_in, count_of, checked, after_line, rows_by, row_line_by}

-- the first line that counts with its number, and the lines behind it; without one its number is 0
pub record HeadLine : Type 0 where
  pub number : ℕ
  pub line : List ℕ
  pub behind : List (List ℕ)

unfoldable pub head_line : ℕ → List (List ℕ) → HeadLine
head_line n [] = record { number = 0; line = []; behind = [] }
head_line n (l ∷ ls) = cond (is_passed 44 l) (head_line (suc n) ls) (record { number = suc n; line = l; behind = ls })

-- as places in the text
abbrev pub place_as : List ℕ → First → HeadLine
place_as text r = record { number = r.number; line = part r.from r.to text; behind = lines_of (drop r.next text) }

abbrev pub first_as : List ℕ → Option First → HeadLine
first_as text None = record { number = 0; line = []; behind = [] }
first_as text (Some r) = place_as text r

-- what a text says, by its first line that counts
abbrev pub rows_behind : HeadLine → TextRead
rows_behind h = rows_by (head_of h.number h.line) h.number h.behind

-- and the line of a row
abbrev pub row_line_behind : ℕ → HeadLine → ℕ
row_line_behind j h = row_line_by (head_of h.number h.line) j h.number h.behind

pub record FirstIn (text : List ℕ) (r : First) : Type 0 where
  pub ordered : r.from ≤ r.to
  pub inside : r.to ≤ r.next
  pub within : r.next ≤ length text
  pub counted : r.number ≤ r.next
  pub some : 0 < r.number

abbrev pub FirstOf : List ℕ → Option First → Type 0
FirstOf text None = Unit {0}
FirstOf text (Some r) = FirstIn text r

-- one line by itself: the rows after it, or its fault
pub data Step : Type 0 where
  onward : Sofar → Step
  stopped : TextFault → Step

abbrev pub step_by : Result ℕ TextFault → Sofar → Step
step_by (Ok kind) st = onward st
step_by (Err f) st = stopped f

unfoldable pub line_step : ℕ → Sofar → ℕ → List ℕ → Step
line_step sep st n l = cond (is_passed sep l) (onward st) (step_by (checked sep st n l) (after_line sep st l))

-- the numbers that the lines behind the first that counts say, row after row
unfoldable pub said_in : ℕ → List (List ℕ) → List ℕ
said_in sep [] = []
said_in sep (l ∷ ls) = cond (is_passed sep l) (said_in sep ls) (numbers_said sep (kind_in sep l) l ++ said_in sep ls)

-- how many of them are rows
unfoldable pub count_in : ℕ → List (List ℕ) → ℕ
count_in sep [] = 0
count_in sep (l ∷ ls) = cond (is_passed sep l) (count_in sep ls) (suc (count_in sep ls))

-- the rows in lent room, by their lengths and the area; and as far as the tests of a line ask
abbrev pub kept_as : Kept → List ℕ → List ℕ → Sofar
kept_as k ls a = record { kind = k.kind; count = k.count; lengths = ls; area = take k.used a }

abbrev pub counted_as : Kept → Sofar
counted_as k = record { kind = k.kind; count = k.count; lengths = []; area = [] }

abbrev pub taken_as : Result Kept TextFault → List ℕ → List ℕ → Step
taken_as (Ok k) ls a = onward (kept_as k ls a)
taken_as (Err f) ls a = stopped f

abbrev pub UsedIn : Result Kept TextFault → List ℕ → Type 0
UsedIn (Ok k) a = k.used ≤ length a
UsedIn (Err f) a = Unit {0}

-- a row's numbers stand behind the used ones; what a line at fault leaves there is not said
abbrev pub Stored : ℕ → ℕ → List ℕ → List ℕ → List ℕ → Result ℕ TextFault → Type 0
Stored sep used line before after (Ok kind) = after ≡ sets before used (numbers_said sep kind line)
Stored sep used line before after (Err f) = length after ≡ length before

-- room that is always enough: 32 rows of each kind
abbrev pub area_room : ℕ
area_room = 2336

-- of each kind at most 32 whole rows, and none behind the kind of the last row; every number fits 32 bits
pub record Sound (st : Sofar) : Type 0 where
  pub rows_at : ℕ → ℕ
  pub known : st.kind ≤ kinds
  pub each : length st.lengths ≡ kinds
  pub sum : total st.lengths ≡ length st.area
  pub parts : (k : ℕ) → get_or st.lengths k 0 ≡ numbers_of (suc k) * rows_at k
  pub few : (k : ℕ) → rows_at k ≤ 32
  pub last : (k : ℕ) → suc k ≡ st.kind → rows_at k ≡ st.count
  pub later : (k : ℕ) → st.kind ≤ k → rows_at k ≡ 0
  pub small : (i : ℕ) → get_or st.area i 0 < 4294967296

pub record Ready (k : Kept) (ls a : List ℕ) : Type 0 where
  pub sound : Sound (kept_as k ls a)
  pub inside : k.used ≤ length a
  pub roomy : area_room ≤ length a

-- room for one row more of any kind that may come
abbrev pub RoomFor : Kept → List ℕ → Type 0
RoomFor k a = (kind : ℕ) → 0 < kind → kind ≤ kinds → k.kind ≤ kind → count_of (counted_as k) kind < 32 → k.used + numbers_of kind ≤ length a

-- what is answered, with the lengths and the area as they are left
abbrev pub entered_as : Result Entered TextFault → List ℕ → List ℕ → TextRead
entered_as (Ok e) ls a = rows e.edition ls (take e.used a)
entered_as (Err f) ls a = faulty f

abbrev pub EnteredIn : Result Entered TextFault → List ℕ → List ℕ → Type 0
EnteredIn (Ok e) ls a = (length ls ≡ kinds) × (e.used ≤ length a)
EnteredIn (Err f) ls a = length ls ≡ kinds
