-- The ways out of the figures for C. Assumes nothing.
use Prim.Native.Nat.{ℕ, ◌≤◌, ◌<◌}
use mathlib.Core.Path.{◌≡◌, refl, sym, ap, ◌∙◌}
use mathlib.Core.List.{List, [], ◌∷◌, ◌++◌}
use native.Mathlib.Omega.{arith}
use native.Mathlib.Nat.{zero-add}
use lib.ListN.{length, drop}
use lib.Seq.{sets-eq}
use Rattle.form.specs.Ruling.{too_short, ruling, on_front}
use Rattle.form.specs.Verdict.{rules}
use Rattle.form.specs.Refusals.{Clean, Refused, Ruling}
use Rattle.form.proofs.Order.{ruled_before, kept-before, too_short_lem, long_enough}
use Rattle.form.proofs.Meaning.{refused-ruling}
use Rattle.standing.proofs.Accepted.{accepted-ruling}
use Rattle.decimal.specs.Digits.{WrittenAt}
use Rattle.worksheets.specs.Answers.{worked, refusal, outcome_of}
use Rattle.worksheets.specs.declared.sheets.Figures.{Figures}
use Rattle.worksheets.proofs.Accepted.{refused_verdict, worked_out}
use Rattle.listed.specs.Listed.{listed, figure_numbers, numbers_room}
use Rattle.listed.proofs.Laws.{counted, numbers-length}
use Rattle.tabled.specs.Figures.{figures_answer, figures_after}

module _ (s room : List ℕ) where
  -- what the answer r and the room l are
  abbrev Out : Ruling → List ℕ → Type 0
  Out r l = (r ≡ figures_answer s room) × (l ≡ figures_after s room r)

  pub refused_out : (n p : ℕ) → refusal n p ≡ outcome_of s → Out (Refused n p) room
  refused_out n p e = (sym (ruled_before (rules s) (too_short numbers_room room ∷ []) (refused-ruling s n p (refused_verdict s n p e))), refl)

  pub short_out : (v : Figures) → worked v ≡ outcome_of s → length room < numbers_room → Out (Refused 9 0) room
  short_out v e l =
      let w = worked_out s v e in
      (sym (kept-before (rules s) (too_short numbers_room room ∷ []) (accepted-ruling s w.counts w.accepted) ∙ too_short_lem numbers_room room l), refl)

  pub done_out : (v : Figures) (l : List ℕ) (n : ℕ) → worked v ≡ outcome_of s → numbers_room ≤ length room → WrittenAt (figure_numbers v) room l 0 n → Out Clean l
  unfolding ruling
  done_out v l n e h p =
      let w = worked_out s v e in
      let t = figure_numbers v in (
        sym (kept-before (rules s) (too_short numbers_room room ∷ []) (accepted-ruling s w.counts w.accepted) ∙ long_enough numbers_room room h),
        p.room
            ∙ sets-eq t room 0 (omega (arith, numbers-length (listed v), counted v))
            ∙ ap (λ (k : ℕ). t ++ drop k room) (zero-add (length t))
            ∙ ap (λ (x : Figures). on_front (figure_numbers x) room) w.figures,
      )
