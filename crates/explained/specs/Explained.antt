-- §7: "A small tool takes a return and says, for a refusal, the number, the place and the values that clash." "For an accepted return and one of the three
-- subtotals it names the row
-- with the largest exact part, the lower id on a tie, 'none' where the subtotal is zero." §13: behind these rows it prints all five totals of what became of the biomass.
use Rattle.std.specs.Prelude.{ℕ, cond, List, [], ◌∷◌, ◌++◌, eqb, Err}
use Rattle.form.specs.Ruling.{ruling}
use Rattle.form.specs.Verdict.{rules, rows}
use Rattle.explained.specs.Explanation.{Accepted, Explanation}
use Rattle.form.specs.Refusals.{Clean, Ruling}
use Rattle.heaviest.specs.Heaviest.{heaviest_of}
use Rattle.heaviest.specs.declared.Weight.{Weight}
use Rattle.heaviest.specs.declared.Weights.{Weights}
use Rattle.matter.specs.Matter.{matter_of}
use Rattle.phrases.specs.Ascii.{codes}
use Rattle.phrases.specs.Lines.{Line, number_line, refused_line, lines_text, filled_in, unsigned}
use Rattle.fates.specs.Fates.{matter_lines}
use Rattle.reasons.specs.Reasons.{refusal_of, reason_of}
use Rattle.naming.specs.RowLines.{word_line}
use Rattle.wording.specs.Wording.{value_lines}

-- by the ruling: the heaviest row of each subtotal and what became of the cleared biomass, or the values that clash
abbrev pub explained_by : List ℕ → Ruling → Explanation
explained_by s Clean = Accepted (heaviest_of s) (matter_of (rows 1 s))
explained_by s (Err r) = Err (reason_of s r.number r.place)

-- of any bytes
unfoldable pub explanation_of : List ℕ → Explanation
explanation_of s = explained_by s (ruling (rules s))

-- the ruling that an explanation is of
abbrev pub ruling_of : Explanation → Ruling
ruling_of (Accepted w m) = Clean
ruling_of (Err r) = refusal_of r

-- ---- the text

abbrev pub onsite_name : List ℕ
onsite_name = codes "heaviest_onsite"

abbrev pub offsite_name : List ℕ
offsite_name = codes "heaviest_offsite"

abbrev pub decay_name : List ℕ
decay_name = codes "heaviest_decay"

-- "`heaviest_onsite ID` .. and then `heaviest_onsite_part VALUE`; where the subtotal is zero only `heaviest_onsite none`"
abbrev pub weight_lines : List ℕ → Weight → List Line
weight_lines name w =
    cond (eqb w.part 0) (word_line name (codes "none") ∷ [])
    (number_line name w.id ∷ number_line (name ++ codes "_part") w.part ∷ [])

-- "for `onsite`, `offsite`, `decay` in this order"
abbrev pub weights_lines : Weights → List Line
weights_lines w = weight_lines onsite_name w.onsite ++ (weight_lines offsite_name w.offsite ++ weight_lines decay_name w.decay)

-- "first `refused NUMBER PLACE` as `sheets` does", then the values
abbrev pub refused_text : Ruling → List ℕ
refused_text Clean = []
refused_text (Err r) = refused_line r.number r.place

abbrev pub explained_text : Explanation → List ℕ
explained_text (Accepted w m) = lines_text (weights_lines w ++ matter_lines m)
explained_text (Err r) = refused_text (refusal_of r) ++ lines_text (value_lines r)

-- what `explain` prints
abbrev pub explained : List ℕ → List ℕ
explained s = explained_text (explanation_of s)

-- room that is always enough for it, and for the lines of the heaviest rows
abbrev pub explain_room : ℕ
explain_room = 500

abbrev pub weights_room : ℕ
weights_room = 270

-- ---- as the code puts a weight: the line that there is none, or the two lines, by the names with a space behind each
abbrev pub weight_text : List ℕ → List ℕ → Weight → List ℕ
weight_text none names w = cond (eqb w.part 0) none (filled_in names (unsigned (w.id ∷ w.part ∷ [])))
