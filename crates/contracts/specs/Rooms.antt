-- Room of `lines_room` bytes, NILOFERQ_LINES_ROOM of include/niloferq.h, is enough for the lines of any bytes, room of `explain_room`, NILOFERQ_EXPLAIN_ROOM, for the
-- explanation of any, and room of `nation_room`, NILOFERQ_NATION_ROOM, for the national line of any: no answer there is that the room is too short.
-- It is the types of the code that bound the values in a text, so this is said of whatever meets the contracts, and not of lists of numbers.
use Rattle.std.specs.Prelude.{ℕ, suc, ◌<◌, ◌≤◌, ◌≡◌, refl, Bool, cond, length, Some, None, Ok, Err}
use Rattle.std.proofs.Common.{sym, ap, subst, ◌∙◌, arith, le-ltb, length-append}
use mathlib.Core.List.{List, flat_map}
use seplogic.Ra.Ura.{Ura}
use base.Logic.{SProp, ent}
use contract.Monad.{Fun, fact}
use contract.Lifetimes.{Lfts}
use prog.Memory.{Memory}
use prog.Routine.{Routine}
use types.Logic.{Logic}
use denote.Triple.Entry.{Args, Res}
use denote.Triple.Clauses.{AtExit}
use Rattle.form.specs.Verdict.{rows, verdict_of}
use Rattle.form.specs.Refusals.{Verdict}
use Rattle.matter.specs.Matter.{matter_of}
use Rattle.matter.specs.declared.Matter.{Matter}
use Rattle.heaviest.specs.Heaviest.{heaviest_of}
use Rattle.worksheets.specs.Answers.{Outcome, worked, refusal, outcome_of}
use Rattle.phrases.specs.Lines.{refused_line, lines_text}
use Rattle.phrases.specs.Room.{put_of}
use Rattle.phrases.proofs.LineTexts.{text_append}
use Rattle.phrases.proofs.Room.{refused-length}
use Rattle.fates.specs.Fates.{matter_lines, matter_text}
use Rattle.reasons.specs.Reasons.{reason_of}
use Rattle.wording.specs.Wording.{value_lines}
use Rattle.explained.specs.Explained.{weights_lines, explained_text, explained, explain_room}
use Rattle.explained.proofs.Laws.{accepted-explained, refused-text}
use Rattle.listed.specs.Listed.{listed}
use Rattle.report.specs.Lines.{lines_room, text_of, printed}
use Rattle.gathered.specs.Gathered.{count_of}
use Rattle.gathered.specs.declared.Tally.{Tally}
use Rattle.national.specs.Lines.{stop_text, totals_by, totals_text}
use Rattle.national.specs.Nation.{nation_of, end_text, refusals_text, printed_nation}
use Rattle.national.specs.Steps.{nation_room}
use Rattle.door.specs.Door.{size_of}
use Rattle.steps.proofs.Clauses.{then, outer}
use Rattle.report.specs.contracts.lines as lines
use Rattle.explained.specs.contracts.explain_lines as explain
use Rattle.national.specs.contracts.nation as nation
use Rattle.door.specs.contracts.niloferq_lines as c-lines
use Rattle.door.specs.contracts.niloferq_explain as c-explain
use Rattle.door.specs.contracts.niloferq_nation as c-nation

-- a text that fits is put
pub done_in : (text room : List ℕ) (n : ℕ) → length text ≤ n → n ≤ length room → put_of text room ≡ Some (length text)
done_in text room n h k = ap (λ (b : Bool). cond b None (Some (length text))) (le-ltb (length room) (length text) (omega arith))

-- a text is never empty, so that the size 0 is no text's
text_some : (o : Outcome) → 0 < length (text_of o)
unfolding flat_map listed refused_line
text_some (worked f) = simp length-append (omega arith)
text_some (refusal n p) = simp length-append (omega arith)

pub never_empty : (s : List ℕ) → 0 < length (printed s)
never_empty s = text_some (outcome_of s)

-- nor is an explanation: of a good return the five masses are always there, and of another its refusal
masses_some : (m : Matter) → 0 < length (matter_text m)
unfolding matter_lines lines_text
masses_some m = simp length-append (omega arith)

explained_by : (s : List ℕ) (v : Verdict) → verdict_of s ≡ v → 0 < length (explained s)
unfolding refused_line
explained_by s (Ok c) e =
    let w = weights_lines (heaviest_of s) in
    let m = matter_of (rows 1 s) in
    omega (arith, ap length (ap explained_text (accepted-explained s e) ∙ text_append w (matter_lines m)), length-append (lines_text w) (matter_text m), masses_some m)
explained_by s (Err r) e = omega (arith, ap length (refused-text s e), length-append (refused_line r.number r.place) (lines_text (value_lines (reason_of s r.number r.place))), refused-length r.number r.place)

pub explained_never_empty : (s : List ℕ) → 0 < length (explained s)
explained_never_empty s = explained_by s (verdict_of s) refl

-- nor is a national line: the counts are always there
totals_some : (t : Tally) → 0 < length (totals_text t)
unfolding flat_map totals_by
totals_some t = simp length-append (omega arith)

pub nation_never_empty : (s : List ℕ) → 0 < length (printed_nation s)
nation_never_empty s =
    let n = nation_of s in
    let t = n.tally in
    let stop = stop_text (suc (count_of t)) n.stop in
    omega (arith, length-append (refusals_text n.refusals) (end_text t n.stop), length-append stop (totals_text t), totals_some t)

module _ {M : Type 1} {𝓤 : Ura M} (𝓛 : Logic 𝓤) (mem : Memory → SProp 𝓤) (run : Routine → Fun 𝓤) where
  -- from Rattle: the answer is the text's length
  pub lines_fit : (κs : Lfts (lines.ended).signature.lifetimes) (a : Args (lines.ended).signature κs) (g : (lines.clauses 𝓛 mem run κs a).ghost)
      (r : Res (lines.ended).signature κs) (e : AtExit lines.ended κs)
      → ent 𝓤 ((lines.clauses 𝓛 mem run κs a).ensures g r e) (fact 𝓤 (lines_room ≤ length a.1.0.now → r ≡ Some (length (printed a.0.now))))
  lines_fit κs a g r e = then 𝓤 _ _ (outer 𝓤 _ _ _) (λ p h. p.0 ∙ done_in (printed a.0.now) a.1.0.now lines_room p.1 h)

  -- from C: the size is the text's length, and not the 0 of a room too short
  pub c_lines_fit : (κs : Lfts (c-lines.ended).signature.lifetimes) (a : Args (c-lines.ended).signature κs) (g : (c-lines.clauses 𝓛 mem run κs a).ghost)
      (r : Res (c-lines.ended).signature κs) (e : AtExit c-lines.ended κs)
      → ent 𝓤 ((c-lines.clauses 𝓛 mem run κs a).ensures g r e) (fact 𝓤 (lines_room ≤ length a.1.0.now → (r ≡ length (printed a.0.now)) × (0 < r)))
  c_lines_fit κs a g r e =
      then 𝓤 _ _ (outer 𝓤 _ _ _) (λ p h.
      let q = p.0 ∙ ap size_of (done_in (printed a.0.now) a.1.0.now lines_room p.1 h) in
      (q, subst (λ (n : ℕ). 0 < n) (sym q) (never_empty a.0.now)))

  -- the explanation, from Rattle and from C
  pub explain_fits : (κs : Lfts (explain.ended).signature.lifetimes) (a : Args (explain.ended).signature κs) (g : (explain.clauses 𝓛 mem run κs a).ghost)
      (r : Res (explain.ended).signature κs) (e : AtExit explain.ended κs)
      → ent 𝓤 ((explain.clauses 𝓛 mem run κs a).ensures g r e) (fact 𝓤 (explain_room ≤ length a.1.0.now → r ≡ Some (length (explained a.0.now))))
  explain_fits κs a g r e = then 𝓤 _ _ (outer 𝓤 _ _ _) (λ p h. p.0 ∙ done_in (explained a.0.now) a.1.0.now explain_room p.1 h)

  pub c_explain_fits : (κs : Lfts (c-explain.ended).signature.lifetimes) (a : Args (c-explain.ended).signature κs) (g : (c-explain.clauses 𝓛 mem run κs a).ghost)
      (r : Res (c-explain.ended).signature κs) (e : AtExit c-explain.ended κs)
      → ent 𝓤 ((c-explain.clauses 𝓛 mem run κs a).ensures g r e) (fact 𝓤 (explain_room ≤ length a.1.0.now → (r ≡ length (explained a.0.now)) × (0 < r)))
  c_explain_fits κs a g r e =
      then 𝓤 _ _ (outer 𝓤 _ _ _) (λ p h.
      let q = p.0 ∙ ap size_of (done_in (explained a.0.now) a.1.0.now explain_room p.1 h) in
      (q, subst (λ (n : ℕ). 0 < n) (sym q) (explained_never_empty a.0.now)))

  -- the national line, from Rattle and from C
  pub nation_fits : (κs : Lfts (nation.ended).signature.lifetimes) (a : Args (nation.ended).signature κs) (g : (nation.clauses 𝓛 mem run κs a).ghost)
      (r : Res (nation.ended).signature κs) (e : AtExit nation.ended κs)
      → ent 𝓤 ((nation.clauses 𝓛 mem run κs a).ensures g r e) (fact 𝓤 (nation_room ≤ length a.1.0.now → r ≡ Some (length (printed_nation a.0.now))))
  nation_fits κs a g r e = then 𝓤 _ _ (outer 𝓤 _ _ _) (λ p h. p.0 ∙ done_in (printed_nation a.0.now) a.1.0.now nation_room p.1 h)

  pub c_nation_fits : (κs : Lfts (c-nation.ended).signature.lifetimes) (a : Args (c-nation.ended).signature κs) (g : (c-nation.clauses 𝓛 mem run κs a).ghost)
      (r : Res (c-nation.ended).signature κs) (e : AtExit c-nation.ended κs)
      → ent 𝓤 ((c-nation.clauses 𝓛 mem run κs a).ensures g r e) (fact 𝓤 (nation_room ≤ length a.1.0.now → (r ≡ length (printed_nation a.0.now)) × (0 < r)))
  c_nation_fits κs a g r e =
      then 𝓤 _ _ (outer 𝓤 _ _ _) (λ p h.
      let q = p.0 ∙ ap size_of (done_in (printed_nation a.0.now) a.1.0.now nation_room p.1 h) in
      (q, subst (λ (n : ℕ). 0 < n) (sym q) (nation_never_empty a.0.now)))
