-- What a write answers.
use Rattle.std.specs.Prelude.{ℕ, Result}
use Rattle.form.specs.declared.Refusal.{Refusal}

-- "the number of bytes written", or "a refusal gives number and place"
abbrev pub Written : Type 0
Written = Result ℕ Refusal
