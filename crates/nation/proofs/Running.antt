-- The turns of a run through an input whose bytes are known come to what the file in memory comes to. Assumes nothing.
--     Underway, setting_out, next_turn, arrived     the turns of the run: what was done so far
--     Along, along_first, along_next, along_end     the same, where perhaps the bytes are not known
use Rattle.std.specs.Prelude.{Result, Ok, Err}
use Prim.Native.Nat.{ℕ, suc, ◌-◌}
use mathlib.Core.Path.{◌≡◌, refl, sym, ap, ap₂, subst, ◌∙◌}
use mathlib.Core.List.{List, [], ◌++◌, append-nil, append_assoc}
use native.Mathlib.Omega.{arith}
use lib.ListN.{take, drop}
use Rattle.std.proofs.Common.{Option, None, Some, IfSome}
use Rattle.decimal.specs.Digits.{WrittenAt}
use Rattle.decimal.proofs.DigitLaws.{written-more}
use Rattle.phrases.proofs.LineTexts.{as_text}
use Rattle.cutting.specs.declared.Stop.{Stop}
use Rattle.cutting.specs.Cutting.{most_returns, next_after, cut_file, wanted_of}
use Rattle.national.specs.Nation.{refusals_from, refusals_text}
use Rattle.gathered.specs.Gathered.{accepted_of, refused_of, tally_of, count_of}
use Rattle.gathered.specs.declared.Tally.{Tally}
use Rattle.national.specs.Steps.{line_for, Ready, Further, Ends}
use Rattle.national.specs.Passing.{Passed, passed_by, turns_from, passed}
use Rattle.national.specs.declared.Run.{Run}
use Rattle.national.proofs.Alike.{same_passed}
use Rattle.national.proofs.Streaming.{counts}
use Rattle.nation.specs.Turns.{TakesWanted}

-- what comes behind these lines
abbrev behind : List ℕ → Passed → Passed
behind lines p = record { tally = p.tally; lines = lines ++ p.lines; stop = p.stop }

-- how many turns may come yet
abbrev turns_yet : Tally → ℕ
turns_yet t = suc most_returns - count_of t

-- these lines are written, and the rest of the input comes behind them
pub record Underway (s : List ℕ) (now : Option (List ℕ)) (before out : List ℕ) (run : Run) : Type 0 where
  pub lines : List ℕ
  pub rest : List ℕ
  pub written : WrittenAt lines before out 0 run.at
  pub left : now ≡ Some rest
  pub more : passed s ≡ behind lines (turns_from (turns_yet run.tally) run.tally rest)

pub setting_out : (s before : List ℕ) (run : Run) → run.tally ≡ tally_of [] → run.at ≡ 0 → Underway s (Some s) before before run
unfolding tally_of accepted_of refused_of
setting_out s before run e z = record {
  lines = [];
  rest = s;
  written = record { room = refl; place = z };
  left = refl;
  more = ap (λ (u : Tally). behind [] (turns_from (turns_yet u) u s)) (sym e);
}

-- one turn more
module _ (s before out : List ℕ) (run : Run) (ready : Ready run.tally run.at) (now after : Option (List ℕ)) (u : Underway s now before out run) (seen : List ℕ) (t : TakesWanted now after seen) where
  taken : TakesWanted (Some u.rest) after seen
  taken = subst (λ (x : Option (List ℕ)). TakesWanted x after seen) u.left t

  behind_it : List ℕ
  behind_it = drop (wanted_of u.rest) u.rest

  by_next : (x : Result ℕ Stop) → next_after (count_of run.tally) seen ≡ x
      → passed s ≡ behind u.lines (passed_by run.tally seen x (λ y. turns_from (most_returns - count_of run.tally) y behind_it))
  unfolding turns_from behind_it
  by_next x e =
      let yet : turns_yet run.tally ≡ suc (most_returns - count_of run.tally) = omega (arith, ready.count) in
      u.more
      ∙ ap (λ (j : ℕ). behind u.lines (turns_from j run.tally u.rest)) yet
      ∙ ap₂ (λ (r : List ℕ) (y : Result ℕ Stop). behind u.lines (passed_by run.tally r y (λ v. turns_from (most_returns - count_of run.tally) v behind_it))) (sym taken.0)
      (ap (next_after (count_of run.tally)) (sym taken.0) ∙ e)

  -- a return comes next
  pub next_turn : {out' : List ℕ} {next : Run} → Further run seen out out' next → Underway s after before out' next
  unfolding behind_it
  next_turn {out'} {next} h =
      let line = line_for run.tally (take h.size seen) in
      let n = counts run seen out out' next ready h in
      let yet : most_returns - count_of run.tally ≡ turns_yet next.tally = omega (arith, n, ready.count) in
      let m : Passed = turns_from (turns_yet next.tally) next.tally behind_it in
      let step : passed s ≡ behind u.lines (behind line m) =
      by_next (Ok h.size) h.comes ∙ ap₂ (λ (j : ℕ) (y : Tally). behind u.lines (behind line (turns_from j y behind_it))) yet (sym h.tally) in
      record {
        lines = u.lines ++ line;
        rest = behind_it;
        written = written-more u.written h.lines.0;
        left = taken.1;
        more = step ∙ ap (λ (x : List ℕ). record { tally = m.tally; lines = x; stop = m.stop }) (sym (append_assoc u.lines line m.lines));
      }

  -- none does
  pub arrived : {out' : List ℕ} {w : Stop} → next_after (count_of run.tally) seen ≡ Err w → out' ≡ out → Ends s before out' run.tally w run.at
  arrived {out'} {w} e q =
      let all : record { tally = run.tally; lines = u.lines ++ []; stop = w } ≡ passed s = sym (by_next (Err w) e) in
      let p = all ∙ same_passed s in
      let lines : u.lines ≡ (passed s).lines = sym (append-nil u.lines) ∙ ap (λ (x : Passed). x.lines) all in
      record {
        tally = ap (λ (x : Passed). x.tally) p;
        stop = ap (λ (x : Passed). x.stop) p;
        lines = (
          subst (λ (x : List ℕ). WrittenAt (refusals_text (refusals_from 1 (cut_file s).returns)) before x 0 run.at) (sym q)
              (as_text (lines ∙ ap (λ (x : Passed). x.lines) (same_passed s)) u.written),
          omega (arith, ready.place, ready.count),
        );
      }

-- a run through an input, whose bytes were these at its start
abbrev pub Along : Option (List ℕ) → Option (List ℕ) → List ℕ → List ℕ → Run → Type 0
Along None now before out run = Unit {0}
Along (Some s) now before out run = Underway s now before out run

pub along_first : (known : Option (List ℕ)) (before : List ℕ) (run : Run) → run.tally ≡ tally_of [] → run.at ≡ 0 → Along known known before before run
along_first None before run e z = tt
along_first (Some s) before run e z = setting_out s before run e z

pub along_next : (known now after : Option (List ℕ)) (before out out' seen : List ℕ) (run next : Run) → Along known now before out run → Ready run.tally run.at
    → TakesWanted now after seen → Further run seen out out' next → Along known after before out' next
along_next None now after before out out' seen run next a ready t h = tt
along_next (Some s) now after before out out' seen run next a ready t h = next_turn s before out run ready now after a seen t h

pub along_end : (known now after : Option (List ℕ)) (before out out' seen : List ℕ) (run : Run) (w : Stop) → Along known now before out run → Ready run.tally run.at
    → TakesWanted now after seen → next_after (count_of run.tally) seen ≡ Err w → out' ≡ out → IfSome known (λ s. Ends s before out' run.tally w run.at)
along_end None now after before out out' seen run w a ready t e q = tt
along_end (Some s) now after before out out' seen run w a ready t e q = arrived s before out run ready now after a seen t e q
