-- §7. "A small tool takes a return and says, for a refusal, the number, the place and the values that clash .. Values that stand in the return are proved to be those at that place,
-- a computed one to follow its rule in 01, and no earlier number, or lower place under that number, to be at fault."
-- §8. "The explaining tool then shows 100K and L." §11: for 13 the soil type and its two area sums; the place is that of its own sentence.
-- §12: for 14 the unit code and the edition.
use Rattle.std.specs.Prelude.{ℕ, ◌*◌, ◌<◌, ◌≤◌, ◌≡◌, refl, List, ◌++◌, length, drop, Some, Ok, Err}
use Rattle.std.proofs.Common.{ap, le-ltb}
use Rattle.form.specs.Ruling.{ruling}
use Rattle.form.specs.Block.{edition}
use Rattle.form.specs.Records.{filed, unit_code}
use Rattle.form.specs.Sums.{column_k, column_l, soil_type, sum_now, sum_then}
use Rattle.form.specs.Verdict.{rules, rows, verdict_of}
use Rattle.form.specs.declared.Counts.{Counts}
use Rattle.explained.specs.Explanation.{Accepted}
use Rattle.form.specs.Refusals.{Clean, Refused, Ruling}
use Rattle.totals.specs.Columns.{onsite_part, offsite_part, decay_part}
use Rattle.matter.specs.Matter.{matter_of}
use Rattle.heaviest.specs.Heaviest.{heaviest_of}
use Rattle.heaviest.specs.Largest.{Weighs}
use Rattle.standing.proofs.Accepted.{formed}
use Rattle.heaviest.proofs.Largest.{onsite_weighs, offsite_weighs, decay_weighs}
use Rattle.phrases.specs.Lines.{refused_line, lines_text}
use Rattle.phrases.specs.Room.{put_of, text_after}
use Rattle.fates.specs.Fates.{matter_lines}
use Rattle.areas.specs.Place.{FirstOfLowest}
use Rattle.reasons.specs.Reasons.{refusal_of, row_named, reason_of}
use Rattle.reasons.specs.Explains.{Explains}
use Rattle.faults.specs.declared.Fault.TheVariants.{Fourth}
use Rattle.reasons.specs.declared.Header.{Header}
use Rattle.reasons.specs.declared.Reason.{Reason}
use Rattle.reasons.specs.declared.Reason.TheVariants.{BadBlock}
use Rattle.naming.specs.RowLines.{named_lines, soil_lines, trees_lines}
use Rattle.wording.specs.Wording.{wood_lines, value_lines}
use Rattle.explained.specs.Explained.{explanation_of, ruling_of, weights_lines, explained_text, explained}
use Rattle.explained.proofs.Laws.{accepted-explained, ruling-explained, refused-explained, refused-text, values_stand, fourth_never, wood-place, wood-above, wood-text, soil-place, soil-text, trees-place, trees-text}
use Rattle.reasons.proofs.Explains.{reason_told}
use Rattle.reasons.proofs.Unexplained.{unexplained}
use Rattle.door.specs.Door.{size_of}
use Rattle.door.specs.Explain.{explain_after}
use Rattle.promises.specs.Order.{ByOrder, by_order}

-- the number and the place of an explanation are chosen by the order of the sheets' rules: "no earlier number, or lower place under that number", is at fault
pub explained_by_order : (s : List ℕ) → ByOrder (rules s) (λ n p. ruling_of (explanation_of s) ≡ Refused n p) (ruling_of (explanation_of s) ≡ Clean)
explained_by_order s = rw (ruling-explained s) (by_order (λ (u : Ruling). u) (λ u v e. e) (rules s))

-- so they are the verdict's
pub explained_verdict : (s : List ℕ) → ruling_of (explanation_of s) ≡ ruling (rules s)
explained_verdict s = ruling-explained s

-- what the values of a refusal are, case by case: reasons/specs/Explains says it of each number
pub explained_values : (s : List ℕ) (r : Reason) → explanation_of s ≡ Err r → Explains s r
explained_values s r e = values_stand s r e

-- of the faults of 4 in 01's sentence, "the fourth or later of its kind" is never the first: the third would not be full, or hold more than 8
pub never_fourth : (s : List ℕ) (b : ℕ) (h : Header) → explanation_of s ≡ Err (BadBlock b h Fourth) → ⊥
never_fourth s b h e = fourth_never s b h e

-- of an accepted return, the three rows: "the row with the largest exact part, the lower id on a tie, 'none' where the subtotal is zero"
pub record ThreeRows (s : List ℕ) : Type 0 where
  pub named : explanation_of s ≡ Accepted (heaviest_of s) (matter_of (rows 1 s))
  pub onsite-row : Weighs s onsite_part (heaviest_of s).onsite
  pub offsite-row : Weighs s offsite_part (heaviest_of s).offsite
  pub decay-row : Weighs s decay_part (heaviest_of s).decay

pub explained-rows : (s : List ℕ) (c : Counts) → verdict_of s ≡ Ok c → ThreeRows s
explained-rows s c e =
    let f = formed s c e in
    record { named = accepted-explained s e; onsite-row = onsite_weighs s c f; offsite-row = offsite_weighs s c f; decay-row = decay_weighs s c f }

-- the text of a refusal, "first `refused NUMBER PLACE` as `sheets` does": there is a reason that is so of these bytes, its number and its place are the
-- verdict's, and behind the first line the text is that reason's lines
pub record Told (s : List ℕ) (n p : ℕ) : Type 0 where
  pub reason : Reason
  pub so : Explains s reason
  pub given : refusal_of reason ≡ Refused n p
  pub text : explained s ≡ refused_line n p ++ lines_text (value_lines reason)

pub explained_refusal : (s : List ℕ) (n p : ℕ) → verdict_of s ≡ Refused n p → Told s n p
explained_refusal s n p e = record {
  reason = reason_of s n p;
  so = values_stand s (reason_of s n p) (refused-explained s e);
  given = reason_told s e;
  text = refused-text s e;
}

-- and none is so of an accepted return
pub accepted_unexplained : (s : List ℕ) (c : Counts) → verdict_of s ≡ Ok c → (r : Reason) → Explains s r → ⊥
accepted_unexplained s c e r w = unexplained s e w

-- or the lines of the three rows, and behind them those of what became of the cleared biomass (Matter)
pub explained-heaviest : (s : List ℕ) (c : Counts) → verdict_of s ≡ Ok c → explained s ≡ lines_text (weights_lines (heaviest_of s) ++ matter_lines (matter_of (rows 1 s)))
explained-heaviest s c e = ap explained_text (accepted-explained s e)

-- where 12 is given, it is at place 0, L is above 100 K, and behind `refused 12 0` the text has the two lines of these and no other
pub record WoodTold (s : List ℕ) (p : ℕ) : Type 0 where
  pub place : p ≡ 0
  pub above : 100 * column_k (rows 3 s) < column_l (rows 1 s)
  pub text : explained s ≡ refused_line 12 0 ++ lines_text (wood_lines (100 * column_k (rows 3 s)) (column_l (rows 1 s)))

pub explained-wood : (s : List ℕ) (p : ℕ) → verdict_of s ≡ Refused 12 p → WoodTold s p
explained-wood s p e = record { place = wood-place s e; above = wood-above s e; text = wood-text s e }

-- where 13 is given, the row at the place is the first of the lowest soil type whose two area sums differ, and behind `refused 13 PLACE` the text names that row and has
-- the type, the sum of the areas now and that of the areas twenty years ago, and no other line
pub record SoilTold (s : List ℕ) (p type : ℕ) : Type 0 where
  pub place : FirstOfLowest (filed s) p type
  pub text : explained s ≡ refused_line 13 p ++ lines_text (named_lines (row_named s p) ++ soil_lines type (sum_now (rows 7 s) type) (sum_then (rows 7 s) type))

pub explained-soil : (s : List ℕ) (p : ℕ) → verdict_of s ≡ Refused 13 p → SoilTold s p (soil_type ((filed s).row p))
explained-soil s p e = record { place = soil-place s e; text = soil-text s e }

-- where 14 is given, the row at the place is a stock row of code 1 in edition 3, and behind `refused 14 PLACE` the text names that row and has its unit code and the
-- edition, as they stand there, and no other line
pub record TreesTold (s : List ℕ) (p : ℕ) : Type 0 where
  pub stock-row : (filed s).kind p ≡ 2
  pub code_1 : unit_code ((filed s).row p) ≡ 1
  pub edition_3 : edition s 0 ≡ 3
  pub text : explained s ≡ refused_line 14 p ++ lines_text (named_lines (row_named s p) ++ trees_lines (unit_code ((filed s).row p)) (edition s 0))

pub explained-trees : (s : List ℕ) (p : ℕ) → verdict_of s ≡ Refused 14 p → TreesTold s p
explained-trees s p e =
    let t = trees-place s e in
    record { stock-row = t.0; code_1 = t.1; edition_3 = t.2; text = trees-text s e }

-- whatever the text is, the contracts of `explain_lines` and of `niloferq_explain` put it into room that is long enough: its length is answered, and it
-- stands at the front
pub record InRoom (s room : List ℕ) : Type 0 where
  pub answer : put_of (explained s) room ≡ Some (length (explained s))
  pub after : text_after (explained s) room (put_of (explained s) room) ≡ explained s ++ drop (length (explained s)) room
  pub answer_in_C : size_of (put_of (explained s) room) ≡ length (explained s)
  pub after_in_C : explain_after s room ≡ explained s ++ drop (length (explained s)) room

pub explained_in_room : (s room : List ℕ) → length (explained s) ≤ length room → InRoom s room
explained_in_room s room l =
    let e = le-ltb (length room) (length (explained s)) l in
    record { answer = rw e refl; after = rw e refl; answer_in_C = rw e refl; after_in_C = rw e refl }
