-- Rules 5, 6, 14 and 7, stated once over records at places. A rule of one row is an entry of a list. "A record's place is 12 times its block plus its position."
use Rattle.std.specs.Prelude.{ℕ, zero, suc, ◌+◌, ◌-◌, ◌*◌, ◌/◌, ◌%◌, Bool, false, cond, not, ◌&&◌, List, [], ◌∷◌, ◌++◌, get_or, ltb, leb, eqb}
use Rattle.form.specs.Ruling.{Rule, rule}
use Rattle.form.specs.Layout.{kinds, parameters_kind, layout, row_at, above_limit}
use Rattle.form.specs.Block.{blocks, kind_of, count_of, record_at}

-- records at places: how many places there are, which hold a record, of which kind, and its row
pub record Filed : Type 0 where
  pub places : ℕ
  pub used : ℕ → Bool
  pub kind : ℕ → ℕ
  pub row : ℕ → List ℕ

-- the records of a list of bytes
abbrev pub filed : List ℕ → Filed
filed s = record {
  places = 12 * blocks s;
  used = λ j. ltb (j % 12) (count_of s (j / 12));
  kind = λ j. kind_of s (j / 12);
  row = λ j. row_at (layout (kind_of s (j / 12))) s (record_at (j / 12) (j % 12));
}

-- the rows of every kind have an id but the parameters
abbrev pub has_id : ℕ → Bool
has_id k = ltb 0 k && (leb k kinds && not (eqb k parameters_kind))

-- the unit code of a stock row: "0 land, 1 scattered trees"
abbrev pub unit_code : List ℕ → ℕ
unit_code r = get_or r 1 0

abbrev pub is_scattered : List ℕ → Bool
is_scattered r = eqb (unit_code r) 1

-- the numbers of a row by their names: of every row with an id, and of a conversion row
abbrev pub id_of : List ℕ → ℕ
id_of r = get_or r 0 0

abbrev pub area_of : List ℕ → ℕ
area_of r = get_or r 1 0

abbrev pub before : List ℕ → ℕ
before r = get_or r 2 0

abbrev pub after : List ℕ → ℕ
after r = get_or r 3 0

abbrev pub onsite : List ℕ → ℕ
onsite r = get_or r 4 0

abbrev pub onsite_oxidised : List ℕ → ℕ
onsite_oxidised r = get_or r 5 0

abbrev pub onsite_carbon : List ℕ → ℕ
onsite_carbon r = get_or r 6 0

abbrev pub offsite : List ℕ → ℕ
offsite r = get_or r 7 0

abbrev pub offsite_oxidised : List ℕ → ℕ
offsite_oxidised r = get_or r 8 0

abbrev pub offsite_carbon : List ℕ → ℕ
offsite_carbon r = get_or r 9 0

abbrev pub ten_year_area : List ℕ → ℕ
ten_year_area r = get_or r 10 0

abbrev pub ten_year_before : List ℕ → ℕ
ten_year_before r = get_or r 11 0

abbrev pub ten_year_after : List ℕ → ℕ
ten_year_after r = get_or r 12 0

abbrev pub decay : List ℕ → ℕ
decay r = get_or r 13 0

abbrev pub decay_carbon : List ℕ → ℕ
decay_carbon r = get_or r 14 0

-- "after above before": a period that is thinner before than after
abbrev pub thinner : ℕ → ℕ → Bool
thinner b a = ltb b a

-- "Such a period has nothing to burn or decay: its difference counts as 0"
unfoldable pub counted_difference : ℕ → ℕ → ℕ
counted_difference b a = cond (thinner b a) 0 (b - a)

-- of a row's two periods
abbrev pub difference : List ℕ → ℕ
difference r = counted_difference (before r) (after r)

abbrev pub ten_year_difference : List ℕ → ℕ
ten_year_difference r = counted_difference (ten_year_before r) (ten_year_after r)

-- a test of one row, by the return's edition and the row's kind
abbrev pub RowTest : Type 0
RowTest = ℕ → ℕ → List ℕ → Bool

-- a rule of one row: its refusal number, and the test that a row breaks it
pub record RowRule : Type 0 where
  pub number : ℕ
  pub breaks : RowTest

abbrev pub row_rule : ℕ → RowTest → RowRule
row_rule n t = record { number = n; breaks = t }

-- 6: "a field above its limit"
abbrev pub field_above : RowTest
field_above edition kind r = above_limit (layout kind) r

-- 14: "for code 1 in edition 3", of a stock row: "Edition 3 has no unit code 1". Code 2 or above is above its limit, and "stays 6"
abbrev pub scattered_trees : RowTest
scattered_trees edition kind r = eqb edition 3 && (eqb kind 2 && is_scattered r)

-- 7: "on-site + off-site + decay above 1,000", of a conversion row
abbrev pub overspent : List ℕ → Bool
overspent r = ltb 1000 (onsite r + offsite r + decay r)

abbrev pub fractions_above : RowTest
fractions_above edition kind r = eqb kind 1 && overspent r

-- the rules of one row, in the paper's order: 14 "straight after 6". A new rule is a new line.
abbrev pub row_rules : List RowRule
row_rules =
    row_rule 6 field_above
    ∷ row_rule 14 scattered_trees
    ∷ row_rule 7 fractions_above
    ∷ []

module _ (f : Filed) where
  -- 5: "an id not above the id before it, same kind". A kind's blocks are full but its last (4), so the record before stands one place lower
  unfoldable pub bad_id : ℕ → Bool
  bad_id j =
      f.used j
      && (has_id (f.kind j) && (ltb 0 j && (eqb (f.kind (j - 1)) (f.kind j) && leb (id_of (f.row j)) (id_of (f.row (j - 1))))))

  -- a test of one row, at a place: of the record that it holds
  unfoldable pub broken_by : ℕ → RowTest → ℕ → Bool
  broken_by edition t j = f.used j && t edition (f.kind j) (f.row j)

  -- the rows of a kind among the first n places, in order
  unfoldable pub rows_below : ℕ → ℕ → List (List ℕ)
  rows_below k zero = []
  rows_below k (suc n) = rows_below k n ++ cond (f.used n && eqb (f.kind n) k) (f.row n ∷ []) []

-- the rows of a kind, in order
abbrev pub filed_rows : Filed → ℕ → List (List ℕ)
filed_rows f k = rows_below f k f.places

-- a rule of one row, over all places
abbrev pub over_places : ℕ → Filed → List RowRule → List Rule
over_places edition f [] = []
over_places edition f (q ∷ qs) = rule q.number f.places (broken_by f edition q.breaks) ∷ over_places edition f qs

-- the rules of records, in the paper's order
abbrev pub record_rules : ℕ → Filed → List Rule
record_rules edition f = rule 5 f.places (bad_id f) ∷ over_places edition f row_rules

-- ---- as the code asks for them, by their numbers

-- the test of the rule of one row that has a number; another number is no such rule, and no row breaks it
abbrev pub numbered : ℕ → List RowRule → RowTest
numbered n [] = λ edition kind r. false
numbered n (q ∷ qs) = cond (eqb n q.number) q.breaks (numbered n qs)

abbrev pub test_numbered : ℕ → RowTest
test_numbered n = numbered n row_rules

-- the test of 5, or of the rule of one row that has a number, at a place
abbrev pub test_of : ℕ → ℕ → Filed → ℕ → Bool
test_of n edition f j = cond (eqb n 5) (bad_id f j) (broken_by f edition (test_numbered n) j)

-- the numbers of the rules of records, in the paper's order
abbrev pub numbers_in : List RowRule → List ℕ
numbers_in [] = []
numbers_in (q ∷ qs) = q.number ∷ numbers_in qs

abbrev pub record_numbers : List ℕ
record_numbers = 5 ∷ numbers_in row_rules

-- the rules that have some numbers, over all places
abbrev pub by_number : ℕ → Filed → List ℕ → List Rule
by_number edition f [] = []
by_number edition f (n ∷ ns) = rule n f.places (test_of n edition f) ∷ by_number edition f ns
