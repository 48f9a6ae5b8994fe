-- §10: the whole answer of a file of returns, and its text. Assumes nothing.
use Rattle.std.specs.Prelude.{ℕ, suc, Ok, Err}
use mathlib.Core.List.{List, [], ◌∷◌, ◌++◌, flat_map}
use Rattle.form.specs.Verdict.{verdict_of}
use Rattle.form.specs.Refusals.{Verdict}
use Rattle.cutting.specs.Cutting.{Cut, cut_file}
use Rattle.cutting.specs.declared.Stop.{Stop}
use Rattle.gathered.specs.Gathered.{tally_of, count_of}
use Rattle.gathered.specs.declared.Tally.{Tally}
use Rattle.national.specs.Lines.{Refusal, refusal_line, stop_text, totals_text}

-- the refusals among returns, the first of them at a position: each by the verdict of its own bytes
abbrev pub refusal_by : ℕ → Verdict → List Refusal
refusal_by i (Ok c) = []
refusal_by i (Err r) = record { position = i; number = r.number; place = r.place } ∷ []

unfoldable pub refusals_from : ℕ → List (List ℕ) → List Refusal
refusals_from i [] = []
refusals_from i (r ∷ rs) = refusal_by i (verdict_of r) ++ refusals_from (suc i) rs

-- what is answered of a file: its refusals, why the run went no further, the counts and the sums
pub record Nation : Type 0 where
  pub refusals : List Refusal
  pub stop : Stop
  pub tally : Tally

abbrev pub nation_by : Cut → Nation
nation_by c = record { refusals = refusals_from 1 c.returns; stop = c.stop; tally = tally_of c.returns }

abbrev pub nation_of : List ℕ → Nation
nation_of s = nation_by (cut_file s)

-- the refusals' lines
abbrev pub refusals_text : List Refusal → List ℕ
refusals_text rs = flat_map refusal_line rs

-- what comes behind them: the stop, at the position behind the last return, and the totals
abbrev pub end_text : Tally → Stop → List ℕ
end_text t w = stop_text (suc (count_of t)) w ++ totals_text t

abbrev pub nation_text : Nation → List ℕ
nation_text n = refusals_text n.refusals ++ end_text n.tally n.stop

-- what `nation` prints of the bytes of a file
abbrev pub printed_nation : List ℕ → List ℕ
printed_nation s = nation_text (nation_of s)
