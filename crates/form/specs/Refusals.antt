-- "Its answer, or one refusal number with its place": a refusal, of an answer of any type, by its number and its place; and what a judge says.
use Rattle.std.specs.Prelude.{ℕ, Result, Ok, Err}
use Rattle.form.specs.declared.Counts.{Counts}
use Rattle.form.specs.declared.Refusal.{Refusal}

abbrev pub Refused : {A : Type 0} → ℕ → ℕ → Result A Refusal
Refused n p = Err (record { number = n; place = p })

-- what some rules say: none of them is broken, or the first that is
abbrev pub Ruling : Type 0
Ruling = Result (Unit {0}) Refusal

pattern abbrev pub Clean : Ruling
Clean = Ok tt

-- the row counts, or the first broken rule
abbrev pub Verdict : Type 0
Verdict = Result Counts Refusal
