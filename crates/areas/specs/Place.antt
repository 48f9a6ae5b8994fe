-- §11: "13, place of the first row of the lowest soil type whose two area sums differ", of records at places, as a sentence by itself.
use Rattle.std.specs.Prelude.{ℕ, ◌<◌, ◌≡◌, true, List}
use Rattle.form.specs.Records.{Filed, filed_rows}
use Rattle.form.specs.Sums.{soil_type, sum_now, sum_then}

-- of soil rows: each type has as much land now as twenty years ago
abbrev pub Even : List (List ℕ) → Type 0
Even soils = (type : ℕ) → sum_now soils type ≡ sum_then soils type

pub record FirstOfLowest (f : Filed) (p type : ℕ) : Type 0 where
  -- a row of mineral soil of the type stands there
  pub inside : p < f.places
  pub used_there : f.used p ≡ true
  pub kind_there : f.kind p ≡ 7
  pub type_there : soil_type (f.row p) ≡ type
  -- "whose two area sums differ"
  pub differ : sum_now (filed_rows f 7) type ≡ sum_then (filed_rows f 7) type → ⊥
  -- "the lowest soil type": those of every lower type are the same
  pub lowest : (t : ℕ) → t < type → sum_now (filed_rows f 7) t ≡ sum_then (filed_rows f 7) t
  -- "the first row of" it: none of the type stands before
  pub first : (j : ℕ) → j < p → f.used j ≡ true → f.kind j ≡ 7 → soil_type (f.row j) ≡ type → ⊥
