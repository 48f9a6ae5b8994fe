-- The explanation by the verdict. Assumes nothing.
--     accepted-explained, refused-explained    what is explained of a return that is accepted, and of one that is refused
--     refused-text      the text of a refusal: its line, then the values
--     refused-short     how long its line is
--     ruling-explained  an explanation's number and place are the verdict's
--     values_stand      its values are what is said of the bytes; fourth_never, one fault that is never named
--     wood-place, wood-above, wood-text    where 12 is given: its place, which of the two masses is above the other, and the whole text
--     soil-place, soil-text                where 13 is given: which row stands there, and the whole text
--     trees-place, trees-text              where 14 is given: the same
use Prim.Native.Nat.{ℕ, ◌*◌, ◌<◌, ◌≤◌}
use mathlib.Core.Path.{◌≡◌, refl, sym, ap, subst, ◌∙◌}
use mathlib.Core.List.{List, ◌++◌}
use native.Mathlib.Omega.{arith}
use lib.ListN.{length}
use Rattle.form.specs.Ruling.{ruling}
use Rattle.form.specs.Block.{edition}
use Rattle.form.specs.Records.{filed, unit_code}
use Rattle.form.specs.Sums.{column_k, column_l, soil_type, sum_now, sum_then}
use Rattle.form.specs.Verdict.{rules, rows, verdict_by, verdict_of}
use Rattle.form.specs.declared.Counts.{Counts}
use Rattle.explained.specs.Explanation.{Accepted}
use Rattle.form.specs.Refusals.{Clean, Refused, Ruling}
use Rattle.std.specs.Prelude.{Ok, Err}
use Rattle.form.proofs.EachKind.{few_kinds}
use Rattle.form.proofs.Meaning.{clean_of, refused-ruling, small}
use Rattle.decimal.proofs.DigitLaws.{decimal-length}
use Rattle.heaviest.specs.Heaviest.{heaviest_of}
use Rattle.matter.specs.Matter.{matter_of}
use Rattle.phrases.specs.Lines.{refused_line, lines_text}
use Rattle.phrases.proofs.Room.{refused-length}
use Rattle.areas.specs.Place.{FirstOfLowest}
use Rattle.reasons.specs.Reasons.{row_named, reason_of}
use Rattle.reasons.specs.Explains.{Explains, wood_12, soils_13, trees_14}
use Rattle.reasons.specs.declared.Row.{Row}
use Rattle.reasons.specs.declared.Reason.{Reason}
use Rattle.reasons.proofs.Explains.{reason_told, explains, no_fourth}
use Rattle.faults.specs.declared.Fault.TheVariants.{Fourth}
use Rattle.reasons.specs.declared.Header.{Header}
use Rattle.reasons.specs.declared.Reason.TheVariants.{BadBlock, ClearedAbove, SoilUneven, ScatteredTrees}
use Rattle.naming.specs.RowLines.{named_lines, soil_lines, trees_lines}
use Rattle.wording.specs.Wording.{wood_lines, value_lines}
use Rattle.explained.specs.Explained.{explained_by, explanation_of, ruling_of, refused_text, explained_text, explained}

-- the place that a ruling refuses by
abbrev place_said : Ruling → ℕ
place_said Clean = 0
place_said (Err r) = r.place

module _ (s : List ℕ) where
  pub accepted-explained : {c : Counts} → verdict_of s ≡ Ok c → explanation_of s ≡ Accepted (heaviest_of s) (matter_of (rows 1 s))
  unfolding verdict_of explanation_of
  accepted-explained {c} e = ap (explained_by s) (clean_of s (ruling (rules s)) c e).0

  module _ {n p : ℕ} (e : verdict_of s ≡ Refused n p) where
    pub refused-explained : explanation_of s ≡ Err (reason_of s n p)
    unfolding explanation_of
    refused-explained = ap (explained_by s) (refused-ruling s n p e)

    pub refused-text : explained s ≡ refused_line n p ++ lines_text (value_lines (reason_of s n p))
    refused-text = ap explained_text refused-explained ∙ ap (λ (r : Ruling). refused_text r ++ lines_text (value_lines (reason_of s n p))) (reason_told s e)

    pub refused-short : length (refused_line n p) ≤ 15
    refused-short =
        let h = small s n p e in
        omega (arith, refused-length n p, decimal-length 1 n (omega arith), decimal-length 2 p (omega (arith, few_kinds)))

  -- ---- number 12
  clash_above : {u l : ℕ} → Explains s (ClearedAbove u l) → u < l
  clash_above (wood_12 h) = h

  module _ {p : ℕ} (e : verdict_of s ≡ Refused 12 p) where
    pub wood-place : p ≡ 0
    unfolding reason_of
    wood-place = sym (ap place_said (reason_told s e))

    pub wood-above : 100 * column_k (rows 3 s) < column_l (rows 1 s)
    unfolding reason_of
    wood-above = clash_above (explains s e)

    pub wood-text : explained s ≡ refused_line 12 0 ++ lines_text (wood_lines (100 * column_k (rows 3 s)) (column_l (rows 1 s)))
    unfolding reason_of
    wood-text = refused-text e ∙ ap (λ (q : ℕ). refused_line 12 q ++ lines_text (wood_lines (100 * column_k (rows 3 s)) (column_l (rows 1 s)))) wood-place

  -- ---- number 13
  clash_place : {w : Row} {t n o : ℕ} → Explains s (SoilUneven w t n o) → FirstOfLowest (filed s) w.place t
  clash_place (soils_13 w t r f) = f

  module _ {p : ℕ} (e : verdict_of s ≡ Refused 13 p) where
    pub soil-place : FirstOfLowest (filed s) p (soil_type ((filed s).row p))
    unfolding reason_of
    soil-place = clash_place (explains s e)

    pub soil-text : let t = soil_type ((filed s).row p) in
        explained s ≡ refused_line 13 p ++ lines_text (named_lines (row_named s p) ++ soil_lines t (sum_now (rows 7 s) t) (sum_then (rows 7 s) t))
    unfolding reason_of
    soil-text = refused-text e

  -- ---- number 14
  clash_trees : {w : Row} {c e : ℕ} → Explains s (ScatteredTrees w c e) → (w.kind ≡ 2) × (c ≡ 1) × (e ≡ 3)
  clash_trees (trees_14 w r k c e) = (k, c, e)

  module _ {p : ℕ} (e : verdict_of s ≡ Refused 14 p) where
    pub trees-place : ((filed s).kind p ≡ 2) × (unit_code ((filed s).row p) ≡ 1) × (edition s 0 ≡ 3)
    unfolding reason_of
    trees-place = clash_trees (explains s e)

    pub trees-text : explained s ≡ refused_line 14 p ++ lines_text (named_lines (row_named s p) ++ trees_lines (unit_code ((filed s).row p)) (edition s 0))
    unfolding reason_of
    trees-text = refused-text e

  -- ---- whatever is explained
  by_ruling : (u : Ruling) → ruling (rules s) ≡ u → ruling_of (explained_by s u) ≡ u
  unfolding verdict_of
  by_ruling Clean e = refl
  by_ruling (Err r) e = reason_told s (ap (verdict_by s) e)

  pub ruling-explained : ruling_of (explanation_of s) ≡ ruling (rules s)
  unfolding explanation_of
  ruling-explained = by_ruling (ruling (rules s)) refl

  values_by : (u : Ruling) (r : Reason) → ruling (rules s) ≡ u → explained_by s u ≡ Err r → Explains s r
  unfolding verdict_of
  values_by Clean r q e = let z : ◌≡◌ {A = ℕ} 0 1 = cc in absurd (omega arith)
  values_by (Err refusal) r q e =
      let x : reason_of s refusal.number refusal.place ≡ r = cc in
      subst (Explains s) x (explains s (ap (verdict_by s) q))

  pub values_stand : (r : Reason) → explanation_of s ≡ Err r → Explains s r
  unfolding explanation_of
  values_stand r e = values_by (ruling (rules s)) r refl e

  no_fourth_by : (u : Ruling) (b : ℕ) (h : Header) → ruling (rules s) ≡ u → explained_by s u ≡ Err (BadBlock b h Fourth) → ⊥
  unfolding verdict_of
  no_fourth_by Clean b h q e = let z : ◌≡◌ {A = ℕ} 0 1 = cc in absurd (omega arith)
  no_fourth_by (Err r) b h q e =
      let x : reason_of s r.number r.place ≡ BadBlock b h Fourth = cc in
      no_fourth s (ap (verdict_by s) q) x

  pub fourth_never : (b : ℕ) (h : Header) → explanation_of s ≡ Err (BadBlock b h Fourth) → ⊥
  unfolding explanation_of
  fourth_never b h e = no_fourth_by (ruling (rules s)) b h refl e
