-- "a checked return stays the caller's own bytes with its row counts beside them"
use Rattle.std.specs.Prelude.{ℕ, List}
use Rattle.std.specs.Borrow.{Bor}
use Rattle.form.specs.declared.Counts.{Counts}
use Rattle.held.specs.declared.Checked.{Checked}

-- the slice itself, as the caller has it, with the counts
abbrev pub checked_of : Bor (List ℕ) → Counts → Checked
checked_of b c = record { bytes = b; counts = c }
