-- What the scan over the records looks for.
use Rattle.std.specs.Prelude.{ℕ, Bool, List}
use Rattle.form.specs.Block.{edition}
use Rattle.form.specs.Records.{filed, broken_by, test_numbered, test_of}

-- the test of the rule of one row with a number, at the places of a return
abbrev pub row_test : ℕ → List ℕ → ℕ → Bool
row_test n s = broken_by (filed s) (edition s 0) (test_numbered n)

-- the same, or that of rule 5
abbrev pub record_test : ℕ → List ℕ → ℕ → Bool
record_test n s = test_of n (edition s 0) (filed s)
