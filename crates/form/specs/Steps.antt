-- What some steps of the code take for granted.
use Rattle.std.specs.Prelude.{ℕ, ◌≤◌, Bool, false, cond, not, ◌||◌, eqb}
use Rattle.form.specs.Verdict.{count_in}
use Rattle.form.specs.declared.Counts.{Counts}

-- at most 32 rows of each kind
abbrev pub Few : Counts → Type 0
Few c = (k : ℕ) → count_in c k ≤ 32

-- the rules of one row that no row of a kind can break in an edition: 14 is about the stock rows of edition 3, 7 about conversion rows
abbrev pub passed_over : ℕ → ℕ → ℕ → Bool
passed_over n edition kind =
    cond (eqb n 14) (not (eqb edition 3) || not (eqb kind 2))
    (cond (eqb n 7) (not (eqb kind 1)) false)
