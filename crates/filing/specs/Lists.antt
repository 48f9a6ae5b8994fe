-- "In lent memory a row is its fields in this order": the rows of all kinds lie in one area, kind after kind, with the length of each kind's part
-- beside them; and the records that they would make, at their places.
use Rattle.std.specs.Prelude.{ℕ, suc, ◌+◌, ◌-◌, ◌*◌, ◌/◌, false, cond, List, [], ◌∷◌, length, get_or, take, drop, ltb}
use Rattle.form.specs.Layout.{numbers_of}
use Rattle.form.specs.Records.{Filed}
use Rattle.form.specs.Standing.{blocks_for}

-- row lists, one for each kind, from kind 1 on
abbrev pub Lists : Type 0
Lists = List (List ℕ)

-- the list of a kind; another number is no kind and has no rows
abbrev pub of_kind : Lists → ℕ → List ℕ
of_kind l kind = get_or ([] ∷ l) kind []

-- an area cut into parts of these lengths, one after the other
unfoldable pub cut : List ℕ → List ℕ → Lists
cut [] area = []
cut (n ∷ ns) area = take n area ∷ cut ns (drop n area)

-- the lengths added up
unfoldable pub total : List ℕ → ℕ
total [] = 0
total (n ∷ ns) = n + total ns

-- how many rows of a kind some numbers are, and how many blocks of twelve they take
abbrev pub rows_in : ℕ → ℕ → ℕ
rows_in kind n = n / numbers_of kind

abbrev pub blocks_of : ℕ → ℕ → ℕ
blocks_of kind n = blocks_for (rows_in kind n)

-- row i of a list
abbrev pub row_of : ℕ → List ℕ → ℕ → List ℕ
row_of kind r i = take (numbers_of kind) (drop (numbers_of kind * i) r)

-- the rows of one list at the places of its blocks: one after the other, and unused places behind the last
unfoldable pub filed_list : ℕ → List ℕ → Filed
filed_list k r = record {
  places = 12 * blocks_of k (length r);
  used = λ j. ltb j (rows_in k (length r));
  kind = λ j. k;
  row = λ j. row_of k r j;
}

-- the records of g behind those of f
unfoldable pub behind : Filed → Filed → Filed
behind f g = record {
  places = f.places + g.places;
  used = λ j. cond (ltb j f.places) (f.used j) (g.used (j - f.places));
  kind = λ j. cond (ltb j f.places) (f.kind j) (g.kind (j - f.places));
  row = λ j. cond (ltb j f.places) (f.row j) (g.row (j - f.places));
}

-- the lists of a kind and those after it, one behind the other; behind the last there is no place
unfoldable pub filed_from : ℕ → Lists → Filed
filed_from k [] = record { places = 0; used = λ j. false; kind = λ j. k; row = λ j. [] }
filed_from k (r ∷ l) = behind (filed_list k r) (filed_from (suc k) l)

-- "when writing, where it would stand": the blocks of kind 1, then 2 and so on
abbrev pub filed_lists : Lists → Filed
filed_lists l = filed_from 1 l
