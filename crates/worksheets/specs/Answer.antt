-- What the sheets are answered as.
use Rattle.std.specs.Prelude.{Result}
use Rattle.form.specs.declared.Refusal.{Refusal}
use Rattle.worksheets.specs.declared.sheets.Figures.{Figures}

-- the figures, or a refusal
abbrev pub Answer : Type 0
Answer = Result Figures Refusal
