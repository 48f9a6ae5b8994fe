-- What the subtotals are answered as.
use Rattle.std.specs.Prelude.{Result}
use Rattle.form.specs.declared.Refusal.{Refusal}
use Rattle.doubles.specs.declared.Doubles.{Doubles}

-- the three doubles, or a refusal
abbrev pub Answer : Type 0
Answer = Result Doubles Refusal
