-- What the search for the heaviest row answers.
use Rattle.std.specs.Prelude.{ℕ, Option, Some, None, Result, Ok}
use Rattle.form.specs.declared.Refusal.{Refusal}
use Rattle.heaviest.specs.declared.Weight.{Weight}

-- a row by its id and its part, or none, or a refusal
abbrev pub Named : Type 0
Named = Result (Option Weight) Refusal

abbrev pub Row : ℕ → ℕ → Named
Row id part = Ok (Some (record { id = id; part = part }))

pattern abbrev pub NoRow : Named
NoRow = Ok None
