-- The national figures of every file (specs/National).
use Rattle.std.specs.Prelude.{ℕ}
use mathlib.Core.List.{List}
use Rattle.ledger.specs.Derived.{stocks_of, conversion_of}
use Rattle.cutting.specs.Cutting.{cut_file}
use Rattle.gathered.specs.Gathered.{accepted_of, tally_of}
use Rattle.national.specs.Nation.{nation_of}
use Rattle.promises.specs.National.{NationalFigures, figures_of_several}

-- of every file
pub national_figures : (s : List ℕ) → let g = (nation_of s).tally.ledger in NationalFigures (accepted_of (cut_file s).returns) (stocks_of g) (conversion_of g)
unfolding tally_of
national_figures s = figures_of_several (accepted_of (cut_file s).returns)
