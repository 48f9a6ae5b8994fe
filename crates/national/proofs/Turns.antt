-- A run through a file: its refusals' lines, return by return. Assumes nothing.
--     line_is, line-short       the line of one return more, and how long it is
--     lines-last                the refusals of returns, with one return more
--     Underway, setting_out, further, arrived     the turns of the run: what was done so far
--     few_taken, has_room, whole-text             its end
use Rattle.std.specs.Prelude.{Ok, Err}
use Prim.Native.Nat.{ℕ, suc, ◌+◌, ◌-◌, ◌*◌, ◌<◌, ◌≤◌}
use mathlib.Core.Path.{◌≡◌, refl, sym, ap, ap₂, subst, ◌∙◌}
use mathlib.Core.List.{List, [], ◌∷◌, ◌++◌, append-nil, append_assoc, flat_map}
use native.Mathlib.Numerals.{add-one}
use native.Mathlib.Nat.{add-zero}
use native.Mathlib.Omega.{arith}
use lib.ListN.{length, take, drop, length-append, length-drop}
use lib.Seq.{take_all, length-sets}
use Rattle.decimal.specs.Digits.{WrittenAt}
use Rattle.decimal.proofs.DigitLaws.{written-more, decimal-length}
use Rattle.phrases.specs.Lines.{WrittenIn}
use Rattle.phrases.proofs.LineTexts.{as_text}
use Rattle.phrases.proofs.Room.{refused-length}
use Rattle.form.specs.Verdict.{verdict_of}
use Rattle.form.specs.Refusals.{Verdict}
use Rattle.std.specs.Prelude.{Ok, Err}
use Rattle.form.proofs.EachKind.{few_kinds}
use Rattle.form.proofs.Meaning.{small}
use Rattle.cutting.specs.Cutting.{most_returns, next_of, next_after, Cut, cut_file}
use Rattle.cutting.specs.declared.Stop.{Stop}
use Rattle.cutting.proofs.Going.{Going, at_start, one_more, at_stop, return-after, size_of, few_cut}
use Rattle.ledger.specs.Ledger.{Bounded}
use Rattle.gathered.specs.Gathered.{tally_of, count_of, step_of, Roomy}
use Rattle.gathered.specs.declared.Tally.{Tally}
use Rattle.gathered.proofs.Tallies.{tally-last, counted}
use Rattle.gathered.proofs.Sizes.{tally-roomy, tally-bounded}
use Rattle.national.specs.Lines.{Refusal, refusal_line}
use Rattle.national.specs.Nation.{refusal_by, refusals_from, refusals_text, end_text, printed_nation}
use Rattle.national.specs.Steps.{line_room, line_for, Ends}
use Rattle.national.proofs.Pieces.{by_refused, listed-length}

-- the line of one return more, as the code has its position and its verdict
pub line_is : (t : Tally) (s : List ℕ) {i : ℕ} {v : Verdict} → i ≡ count_of t → v ≡ verdict_of s → refusals_text (refusal_by (i + 1) v) ≡ line_for t s
line_is t s e q = ap₂ (λ (j : ℕ) (x : Verdict). refusals_text (refusal_by j x)) (add-one _ ∙ ap suc e) q

short_by : (i : ℕ) (s : List ℕ) (v : Verdict) → verdict_of s ≡ v → i ≤ 500 → length (refusals_text (refusal_by i v)) ≤ line_room
unfolding flat_map
short_by i s (Ok c) e h = omega arith
short_by i s (Err r) e h =
    let w = small s r.number r.place e in
    omega (
      arith,
      ap length (by_refused i {v = Err r} refl),
      listed-length i r.number r.place,
      refused-length r.number r.place,
      decimal-length 2 i (omega arith),
      decimal-length 1 r.number (omega (arith, w.0)),
      decimal-length 2 r.place (omega (arith, w.1, few_kinds)),
    )

pub line-short : (t : Tally) (s : List ℕ) → count_of t < 500 → length (line_for t s) ≤ line_room
line-short t s h = short_by (suc (count_of t)) s (verdict_of s) refl h

-- the part of a file from a place on
rest_is : (s : List ℕ) (from : ℕ) → take (length s - from) (drop from s) ≡ drop from s
rest_is s from = take_all (length s - from) (drop from s) (omega (arith, length-drop from s))

-- the refusals' lines of returns with one return more
pub text_append : (xs ys : List Refusal) → refusals_text (xs ++ ys) ≡ refusals_text xs ++ refusals_text ys
unfolding flat_map
text_append [] ys = refl
text_append (x ∷ xs) ys = ap (λ (t : List ℕ). refusal_line x ++ t) (text_append xs ys) ∙ sym (append_assoc (refusal_line x) (refusals_text xs) (refusals_text ys))

refusals-last : (i : ℕ) (rs : List (List ℕ)) (s : List ℕ) → refusals_from i (rs ++ (s ∷ [])) ≡ refusals_from i rs ++ refusal_by (i + length rs) (verdict_of s)
unfolding refusals_from
refusals-last i [] s = append-nil (refusal_by i (verdict_of s)) ∙ ap (λ (j : ℕ). refusal_by j (verdict_of s)) (sym (add-zero i))
refusals-last i (r ∷ rs) s =
    let e : suc i + length rs ≡ i + suc (length rs) = omega arith in
    ap (λ (x : List Refusal). refusal_by i (verdict_of r) ++ x) (refusals-last (suc i) rs s ∙ ap (λ (j : ℕ). refusals_from (suc i) rs ++ refusal_by j (verdict_of s)) e)
    ∙ sym (append_assoc (refusal_by i (verdict_of r)) (refusals_from (suc i) rs) (refusal_by (i + suc (length rs)) (verdict_of s)))

pub lines-last : (done : List (List ℕ)) (t : Tally) (s : List ℕ) → t ≡ tally_of done → refusals_text (refusals_from 1 done) ++ line_for t s ≡ refusals_text (refusals_from 1 (done ++ (s ∷ [])))
lines-last done t s e =
    let n : suc (count_of t) ≡ 1 + length done = omega (arith, ap count_of e, counted done) in
    ap (λ (j : ℕ). refusals_text (refusals_from 1 done) ++ refusals_text (refusal_by j (verdict_of s))) n
    ∙ sym (text_append (refusals_from 1 done) (refusal_by (1 + length done) (verdict_of s)))
    ∙ ap refusals_text (sym (refusals-last 1 done s))

-- these were taken, and their lines are written
pub record Underway (s before : List ℕ) (t : Tally) (at from : ℕ) (out : List ℕ) : Type 0 where
  pub done : List (List ℕ)
  pub going : Going s done from
  pub tally : t ≡ tally_of done
  pub lines : WrittenAt (refusals_text (refusals_from 1 done)) before out 0 at
  pub short : at ≤ line_room * length done

pub setting_out : (s before : List ℕ) {t : Tally} {at : ℕ} → t ≡ tally_of [] → at ≡ 0 → Underway s before t at 0 before
unfolding refusals_from flat_map
setting_out s before e z = record {
  done = [];
  going = at_start s;
  tally = e;
  lines = record { room = refl; place = z };
  short = omega arith;
}

module _ (s before : List ℕ) (t : Tally) (at from : ℕ) (out : List ℕ) (u : Underway s before t at from out) where
  count_is : count_of t ≡ length u.done
  count_is = ap count_of u.tally ∙ counted u.done

  pub few : count_of t ≤ 500
  few = omega (arith, count_is, u.going.few)

  pub inside : from ≤ length s
  inside = u.going.inside

  pub same_room : length out ≡ length before
  same_room = ap length u.lines.room ∙ length-sets before 0 (refusals_text (refusals_from 1 u.done))

  -- what comes next, as the code asks for it
  asked : (k : ℕ) → k ≡ count_of t → next_after (count_of t) (drop from s) ≡ next_after k (take (length s - from) (drop from s))
  asked k i = ap₂ next_after (sym i) (sym (rest_is s from))

  -- a return comes next
  module _ (k size : ℕ) (i : k ≡ count_of t) (e : Ok size ≡ next_after k (take (length s - from) (drop from s))) where
    ahead : (count_of t < most_returns) × (next_of (drop from s) ≡ Ok size)
    ahead = return-after (drop from s) (count_of t) size (asked k i ∙ sym e)

    pub fits : (512 ≤ size) × (from + size ≤ length s) × (at + line_room ≤ line_room * 500)
    fits =
        let z = size_of (drop from s) size ahead.1 in
        (z.some, omega (arith, z.there, length-drop from s, inside), omega (arith, u.short, ahead.0, count_is))

    pub roomy : Roomy t
    roomy = subst Roomy (sym u.tally) (tally-roomy u.done (omega (arith, ahead.0, count_is)))

    pub further : (end : ℕ) {t' : Tally} {at' : ℕ} {out' : List ℕ} → end ≡ from + size → t' ≡ step_of t (take (end - from) (drop from s))
        → WrittenIn line_room (line_for t (take (end - from) (drop from s))) out out' at at' → Underway s before t' at' end out'
    further end {t'} {at'} {out'} q0 q w =
        let m : end - from ≡ size = omega arith in
        let r = take (end - from) (drop from s) in
        let g = one_more s u.done from u.going size (omega (arith, ahead.0, count_is)) ahead.1 in
        let same : take size (drop from s) ≡ r = ap (λ (j : ℕ). take j (drop from s)) (sym m) in
        record {
          done = u.done ++ (r ∷ []);
          going = subst (λ (x : List ℕ). Going s (u.done ++ (x ∷ [])) end) same (subst (Going s (u.done ++ (take size (drop from s) ∷ []))) (sym q0) g);
          tally = q ∙ ap (λ (x : Tally). step_of x r) u.tally ∙ sym (tally-last u.done r);
          lines = as_text (lines-last u.done t r u.tally) (written-more u.lines w.0);
          short = omega (arith, u.short, w.1, length-append u.done (r ∷ []));
        }

  -- none does
  pub arrived : (k : ℕ) (w : Stop) → k ≡ count_of t → Err w ≡ next_after k (take (length s - from) (drop from s)) → Ends s before out t w at
  arrived k w i e =
      let c = at_stop s u.done from u.going w (ap (λ (j : ℕ). next_after j (drop from s)) (sym count_is) ∙ asked k i ∙ sym e) in
      record {
        tally = u.tally ∙ ap (λ (y : Cut). tally_of y.returns) (sym c);
        stop = ap (λ (y : Cut). y.stop) (sym c);
        lines = (as_text (ap (λ (y : Cut). refusals_text (refusals_from 1 y.returns)) (sym c)) u.lines, omega (arith, u.short, u.going.few));
      }

-- at the end of a run: there is room for what comes behind, and with it the text is whole
module _ {s before after : List ℕ} {t : Tally} {w : Stop} {at : ℕ} (e : Ends s before after t w at) where
  pub few_taken : count_of t ≤ 500
  few_taken = omega (arith, ap count_of e.tally ∙ counted (cut_file s).returns, few_cut s)

  pub has_room : Bounded t.ledger
  has_room = subst (λ (x : Tally). Bounded x.ledger) (sym e.tally) (tally-bounded (cut_file s).returns (few_cut s))

  pub whole-text : refusals_text (refusals_from 1 (cut_file s).returns) ++ end_text t w ≡ printed_nation s
  whole-text = ap₂ (λ (x : Tally) (y : Stop). refusals_text (refusals_from 1 (cut_file s).returns) ++ end_text x y) e.tally e.stop
