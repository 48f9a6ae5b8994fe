-- What the steps of the national line answer. Assumes nothing.
use Rattle.std.specs.Prelude.{ℕ, suc, ◌+◌, ◌*◌, ◌≤◌, ◌≡◌, List, [], ◌∷◌, take, Result, Ok, Err}
use Rattle.phrases.specs.Lines.{WrittenIn}
use Rattle.form.specs.Verdict.{verdict_of}
use Rattle.ledger.specs.Several.{AtMost}
use Rattle.fates.specs.Fates.{matter_room}
use Rattle.cutting.specs.Cutting.{most_returns, next_after, cut_file}
use Rattle.cutting.specs.declared.Stop.{Stop}
use Rattle.gathered.specs.Gathered.{tally_of, count_of, step_of}
use Rattle.gathered.specs.declared.Tally.{Tally}
use Rattle.national.specs.declared.Run.{Run}
use Rattle.national.specs.Nation.{refusal_by, refusals_from, refusals_text}

-- room for a refusal's line, for a stop's, and for the totals, columns first; and room that is always enough for the whole text, with some for lines to come
abbrev pub line_room : ℕ
line_room = 26

abbrev pub stop_room : ℕ
stop_room = 30

abbrev pub columns_room : ℕ
columns_room = 600

abbrev pub totals_room : ℕ
totals_room = columns_room + matter_room

abbrev pub end_room : ℕ
end_room = stop_room + totals_room

abbrev pub nation_room : ℕ
nation_room = 16000

-- one return more: its line, if it is refused
abbrev pub line_for : Tally → List ℕ → List ℕ
line_for t s = refusals_text (refusal_by (suc (count_of t)) (verdict_of s))

-- what a run through a whole file comes to
pub record Ends (s before after : List ℕ) (t : Tally) (w : Stop) (at : ℕ) : Type 0 where
  pub tally : t ≡ tally_of (cut_file s).returns
  pub stop : w ≡ (cut_file s).stop
  pub lines : WrittenIn (line_room * most_returns) (refusals_text (refusals_from 1 (cut_file s).returns)) before after 0 at

-- ---- as a program goes that reads a return at a time (`cutting::wanted`): one turn, by what comes next in the bytes that it has read

abbrev pub tally_after : Tally → List ℕ → Result ℕ Stop → Tally
tally_after t seen (Ok n) = step_of t (take n seen)
tally_after t seen (Err w) = t

abbrev pub line_after : Tally → List ℕ → Result ℕ Stop → List ℕ
line_after t seen (Ok n) = line_for t (take n seen)
line_after t seen (Err w) = []

-- a run that has room for its next turn
pub record Ready (t : Tally) (at : ℕ) : Type 0 where
  pub count : count_of t ≤ most_returns
  pub ledger : AtMost t.accepted t.ledger
  pub place : at ≤ line_room * count_of t

-- a return of so many bytes comes next, and the run that has taken it
pub record Further (run : Run) (seen before after : List ℕ) (next : Run) : Type 0 where
  pub size : ℕ
  pub comes : next_after (count_of run.tally) seen ≡ Ok size
  pub tally : next.tally ≡ step_of run.tally (take size seen)
  pub lines : WrittenIn line_room (line_for run.tally (take size seen)) before after run.at next.at

-- what a turn comes to: a return more, or why none comes next, and the room as it was
abbrev pub Turned : Run → List ℕ → List ℕ → List ℕ → Result Run Stop → Type 0
Turned run seen before after (Ok next) = Further run seen before after next
Turned run seen before after (Err w) = (next_after (count_of run.tally) seen ≡ Err w) × (after ≡ before)
