-- The turns of a program that reads a return at a time, one after the other (`settle`), and what they come to. Assumes nothing.
use Rattle.std.specs.Prelude.{ℕ, zero, suc, List, [], ◌++◌, take, drop, Result, Ok, Err}
use Rattle.cutting.specs.Cutting.{most_returns, next_after, wanted_of}
use Rattle.cutting.specs.declared.Stop.{Stop}
use Rattle.cutting.specs.declared.Stop.TheVariants.{Whole}
use Rattle.gathered.specs.Gathered.{tally_of, count_of}
use Rattle.gathered.specs.declared.Tally.{Tally}
use Rattle.national.specs.Nation.{end_text}
use Rattle.national.specs.Steps.{tally_after, line_after}

-- the tally, the lines that were written, and why the run went no further
pub record Passed : Type 0 where
  pub tally : Tally
  pub lines : List ℕ
  pub stop : Stop

-- by what comes next in the bytes that were read, and what comes behind it
abbrev pub passed_by : Tally → List ℕ → Result ℕ Stop → (Tally → Passed) → Passed
passed_by t seen (Ok n) more =
    let p = more (tally_after t seen (Ok n)) in
    record { tally = p.tally; lines = line_after t seen (Ok n) ++ p.lines; stop = p.stop }
passed_by t seen (Err w) more = record { tally = t; lines = []; stop = w }

-- each turn reads the wanted bytes of what is left of the file, and the next one reads on behind them
unfoldable pub turns_from : ℕ → Tally → List ℕ → Passed
turns_from zero t s = record { tally = t; lines = []; stop = Whole }
turns_from (suc k) t s =
    passed_by t (take (wanted_of s) s) (next_after (count_of t) (take (wanted_of s) s)) (λ u. turns_from k u (drop (wanted_of s) s))

-- a run is over after one turn more than there may be returns
abbrev pub passed : List ℕ → Passed
passed s = turns_from (suc most_returns) (tally_of []) s

-- what the program prints of it
abbrev pub passed_text : Passed → List ℕ
passed_text p = p.lines ++ end_text p.tally p.stop
