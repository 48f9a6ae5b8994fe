-- The turns of a program that reads a return at a time come to what the file in memory comes to. Assumes nothing.
--     turns_alike     turn by turn, whatever was taken before
--     same_passed     of a whole file; same_text, its text
use Rattle.std.specs.Prelude.{Result, Ok, Err}
use Prim.Native.Nat.{ℕ, zero, suc, ◌+◌, ◌<◌, ◌≤◌}
use mathlib.Core.Path.{◌≡◌, refl, sym, ap, ap₂, ◌∙◌}
use mathlib.Core.List.{List, [], ◌∷◌, ◌++◌, append-nil, append_assoc, flat_map}
use native.Mathlib.Omega.{arith}
use borrow.Author.Tests.{lt-ltb, le-ltb}
use lib.ListN.{length, take, drop, length-append}
use lib.Seq.{take-take}
use Rattle.form.specs.Verdict.{verdict_of}
use Rattle.cutting.specs.Cutting.{most_returns, next_of, end_of, next_after, Cut, stopped_by, behind, cut_by, cut_from, wanted_of}
use Rattle.cutting.specs.declared.Stop.{Stop}
use Rattle.cutting.proofs.Reading.{as_read, wanted_is}
use Rattle.gathered.specs.Gathered.{tally_of, count_of, step_of}
use Rattle.gathered.specs.declared.Tally.{Tally}
use Rattle.gathered.proofs.Tallies.{tally-last, counted}
use Rattle.national.specs.Nation.{refusal_by, refusals_from, refusals_text, nation_of, printed_nation}
use Rattle.national.specs.Steps.{line_for}
use Rattle.national.specs.Passing.{Passed, passed_by, turns_from, passed, passed_text}
use Rattle.national.proofs.Turns.{text_append}

-- what these returns and then the cut ones come to: the lines are those of the cut ones
abbrev pass_of : List (List ℕ) → Cut → Passed
pass_of done c = record { tally = tally_of (done ++ c.returns); lines = refusals_text (refusals_from (suc (length done)) c.returns); stop = c.stop }

none_more : (done : List (List ℕ)) (w : Stop) → record { tally = tally_of done; lines = []; stop = w } ≡ pass_of done (stopped_by w)
unfolding refusals_from flat_map
none_more done w = ap (λ (x : List (List ℕ)). record { tally = tally_of x; lines = []; stop = w }) (sym (append-nil done))

-- one return more, in front of what is cut behind it
one_first : (done : List (List ℕ)) (r : List ℕ) (c : Cut) → let p = pass_of (done ++ (r ∷ [])) c in
    record { tally = p.tally; lines = line_for (tally_of done) r ++ p.lines; stop = p.stop } ≡ pass_of done (behind r c)
unfolding refusals_from
one_first done r c =
    let n : length (done ++ (r ∷ [])) ≡ suc (length done) = rw (length-append done (r ∷ [])) (omega arith) in
    let v = verdict_of r in
    let lines : line_for (tally_of done) r ++ refusals_text (refusals_from (suc (length (done ++ (r ∷ [])))) c.returns) ≡ refusals_text (refusals_from (suc (length done)) (r ∷ c.returns)) =
    ap₂ (λ (i j : ℕ). refusals_text (refusal_by (suc i) v) ++ refusals_text (refusals_from (suc j) c.returns)) (counted done) n
    ∙ sym (text_append (refusal_by (suc (length done)) v) (refusals_from (suc (suc (length done))) c.returns)) in
    λ i. record { tally = tally_of (append_assoc done (r ∷ []) c.returns i); lines = lines i; stop = c.stop }

turn_by : (m : ℕ) (done : List (List ℕ)) (s : List ℕ) (x : Result ℕ Stop) → next_of s ≡ x → ((u : List ℕ) → turns_from (suc m) (tally_of (done ++ (u ∷ []))) (drop (wanted_of s) s) ≡ pass_of (done ++ (u ∷ [])) (cut_from m (drop (wanted_of s) s)))
    → passed_by (tally_of done) (take (wanted_of s) s) x (λ t. turns_from (suc m) t (drop (wanted_of s) s)) ≡ pass_of done (cut_by s x (λ n. cut_from m (drop n s)))
turn_by m done s (Ok n) e h =
    let w = wanted_is s n e in
    let r = take n s in
    ap (λ (y : List ℕ). passed_by (tally_of done) y (Ok n) (λ t. turns_from (suc m) t (drop (wanted_of s) s))) (ap (λ (j : ℕ). take j s) w)
    ∙ ap (λ (y : List ℕ). over y (turns_from (suc m) (step_of (tally_of done) y) (drop (wanted_of s) s))) (take-take n n s (omega arith))
    ∙ ap (λ (t : Tally). over r (turns_from (suc m) t (drop (wanted_of s) s))) (sym (tally-last done r))
    ∙ ap (over r) (h r)
    ∙ ap (λ (j : ℕ). over r (pass_of (done ++ (r ∷ [])) (cut_from m (drop j s)))) w
    ∙ one_first done r (cut_from m (drop n s))
  where
    over : List ℕ → Passed → Passed
    over r p = record { tally = p.tally; lines = line_for (tally_of done) r ++ p.lines; stop = p.stop }
turn_by m done s (Err w) e h = none_more done w

pub turns_alike : (m : ℕ) (done : List (List ℕ)) (s : List ℕ) → length done + m ≡ most_returns → turns_from (suc m) (tally_of done) s ≡ pass_of done (cut_from m s)
unfolding turns_from cut_from
turns_alike zero done s h =
    let k = count_of (tally_of done) in
    let o : most_returns ≤ k = omega (arith, counted done) in
    let e : next_after k s ≡ Err (end_of s) = rw (le-ltb k most_returns o) in
    ap (λ (x : Result ℕ Stop). passed_by (tally_of done) (take (wanted_of s) s) x (λ u. turns_from 0 u (drop (wanted_of s) s))) (as_read s k ∙ e) ∙ none_more done (end_of s)
turns_alike (suc m) done s h =
    let k = count_of (tally_of done) in
    let o : k < most_returns = omega (arith, counted done) in
    let e : next_after k s ≡ next_of s = rw (lt-ltb k most_returns o) in
    ap (λ (x : Result ℕ Stop). passed_by (tally_of done) (take (wanted_of s) s) x (λ u. turns_from (suc m) u (drop (wanted_of s) s))) (as_read s k ∙ e)
    ∙ turn_by m done s (next_of s) refl (λ u. turns_alike m (done ++ (u ∷ [])) (drop (wanted_of s) s) (omega (arith, length-append done (u ∷ []))))

pub same_passed : (s : List ℕ) → let n = nation_of s in passed s ≡ record { tally = n.tally; lines = refusals_text n.refusals; stop = n.stop }
same_passed s = turns_alike most_returns [] s refl

pub same_text : (s : List ℕ) → passed_text (passed s) ≡ printed_nation s
same_text s = ap passed_text (same_passed s)
