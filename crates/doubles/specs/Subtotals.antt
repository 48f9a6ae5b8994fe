-- "The answer is three doubles together, or a refusal number and place with no figure."
use Rattle.std.specs.Prelude.{ℕ, List, [], ◌∷◌, Float, Ok, Err}
use Rattle.std.specs.Float.{binary64}
use Rattle.std.specs.Float.Ieee.{mul, add}
use Rattle.form.specs.Records.{area_of, onsite, onsite_oxidised, onsite_carbon, offsite, offsite_oxidised, offsite_carbon, ten_year_area, decay, decay_carbon, difference, ten_year_difference}
use Rattle.form.specs.Verdict.{rows, verdict_of}
use Rattle.doubles.specs.Answers.{Answer}
use Rattle.form.specs.Refusals.{Verdict}
use Rattle.doubles.specs.Double.{double}
use Rattle.doubles.specs.declared.Doubles.{Doubles}

-- a double times a number
abbrev pub times : Float → ℕ → Float
times x n = mul binary64 x (double n)

-- "area times difference, times fraction, times oxidised, times carbon fraction, multiplied in that order as doubles"
abbrev pub part_of : ℕ → ℕ → ℕ → ℕ → ℕ → Float
part_of area difference fraction oxidised carbon = times (times (times (times (double area) difference) fraction) oxidised) carbon

-- "Per row", on site and off site, with the difference that counts: "0 .. in the doubles" for a period that is thinner before than after
unfoldable pub onsite_double : List ℕ → Float
onsite_double r = part_of (area_of r) (difference r) (onsite r) (onsite_oxidised r) (onsite_carbon r)

unfoldable pub offsite_double : List ℕ → Float
offsite_double r = part_of (area_of r) (difference r) (offsite r) (offsite_oxidised r) (offsite_carbon r)

-- "Decay as in 5-2": the ten-year fields, with oxidised 1,000
unfoldable pub decay_double : List ℕ → Float
decay_double r = part_of (ten_year_area r) (ten_year_difference r) (decay r) 1000 (decay_carbon r)

-- "rows added in order" to a double
unfoldable pub add_rows : (List ℕ → Float) → Float → List (List ℕ) → Float
add_rows f x [] = x
add_rows f x (r ∷ rs) = add_rows f (add binary64 x (f r)) rs

-- the three together
abbrev pub add_all : Doubles → List (List ℕ) → Doubles
add_all t rs = record {
  onsite = add_rows onsite_double t.onsite rs;
  offsite = add_rows offsite_double t.offsite rs;
  decay = add_rows decay_double t.decay rs;
}

-- "from zero"
abbrev pub subtotals_of : List (List ℕ) → Doubles
subtotals_of rs = add_all (record { onsite = double 0; offsite = double 0; decay = double 0 }) rs

-- "three doubles together, or a refusal number and place"
abbrev pub answer_by : List ℕ → Verdict → Answer
answer_by s (Ok c) = Ok (subtotals_of (rows 1 s))
answer_by s (Err r) = Err r

abbrev pub answer_of : List ℕ → Answer
answer_of s = answer_by s (verdict_of s)
