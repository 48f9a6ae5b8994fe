-- DEMAND 1. "Every input of every length gets its answer, or one refusal number with its place, chosen by the paper's fixed order: for reading, for the sheets,
-- for writing. A refusal carries no figures, and nothing lent has changed."
use Rattle.std.specs.Prelude.{ℕ, ◌≡◌, refl, length, None, Ok}
use Rattle.std.proofs.Common.{sym, ap, ◌∙◌, arith}
use mathlib.Core.List.{List, [], ◌∷◌, flat_map}
use Rattle.form.specs.Verdict.{block_rules, rules, rows, counts_of, verdict_by, verdict_of}
use Rattle.form.specs.Refusals.{Refused, Ruling}
use Rattle.worksheets.specs.Answer.{Answer}
use Rattle.form.proofs.Meaning.{broken_at}
use Rattle.filing.specs.Lists.{cut}
use Rattle.lists.specs.Rules.{list_rules}
use Rattle.rows.specs.Reading.{read_rules, read_answer, room_after}
use Rattle.rows.specs.Writing.{written, write_rules, written_by, write_answer, bytes_after}
use Rattle.worksheets.specs.Sheets.{by_kind, figures_of}
use Rattle.worksheets.specs.declared.sheets.Figures.{Figures}
use Rattle.worksheets.specs.Answers.{worked, refusal, outcome_by, outcome_of, said, answered}
use Rattle.doubles.specs.Subtotals.{subtotals_of, answer_by, answer_of}
use Rattle.heaviest.specs.Heaviest.{heaviest_by, named_of, heaviest_rules, named_by, heaviest_answer}
use Rattle.listed.specs.Listed.{listed}
use Rattle.phrases.specs.Lines.{refused_line}
use Rattle.phrases.specs.Room.{text_after}
use Rattle.report.specs.Lines.{line_of, text_of, printed}
use Rattle.tabled.specs.Figures.{figures_rules, figures_after}
use Rattle.counted.specs.Counts.{judge_rules, counts_after}
use Rattle.charted.specs.Subtotal.{subtotal_rules, bits_after}
use Rattle.weighed.specs.Heaviest.{heaviest_rules_c, heaviest_after}
use Rattle.weighed.proofs.Named.{named_told}
use Rattle.offered.specs.Defaults.{defaults_after}
use Rattle.handed.specs.Rows.{read_rules_c, rows_after, write_rules_c, blocks_after, size_after}
use Rattle.steps.proofs.Told.{verdict_told, written_told, figures_told, doubles_told, said_back, answered_back}
use Rattle.promises.specs.Order.{numbers, ByOrder, by_order}

-- ---- the orders
-- "Sheets and doubles: 1 to 8", and "01's order closes over" 8; 14 is tried "straight after 6", 12 "straight after 7", and 13 "straight after 12"
pub sheets-numbers : (s : List ℕ) → numbers (rules s) ≡ 1 ∷ 2 ∷ 3 ∷ 4 ∷ 5 ∷ 6 ∷ 14 ∷ 7 ∷ 12 ∷ 13 ∷ []
unfolding numbers block_rules
sheets-numbers s = refl

-- "8 is never given again"
pub never_8 : (s : List ℕ) (p : ℕ) → verdict_of s ≡ Refused 8 p → ⊥
unfolding block_rules
never_8 s p e = absurd (omega (arith, (broken_at s 8 e refl).inside))

-- "Reading: 1 to 9", but 8, with 14 straight after 6, and 12 and 13 straight after 7
pub read-numbers : (s room : List ℕ) → numbers (read_rules s room) ≡ 1 ∷ 2 ∷ 3 ∷ 4 ∷ 5 ∷ 6 ∷ 14 ∷ 7 ∷ 12 ∷ 13 ∷ 9 ∷ []
unfolding numbers block_rules
read-numbers s room = refl

-- "Writing: 10, then 5 to 9", but 8, with 14 straight after 6, and 12 and 13 straight after 7
pub write_numbers : (edition : ℕ) (lengths rows room : List ℕ) → numbers (write_rules edition lengths rows room) ≡ 10 ∷ 5 ∷ 6 ∷ 14 ∷ 7 ∷ 12 ∷ 13 ∷ 9 ∷ []
unfolding numbers list_rules
write_numbers edition lengths rows room = refl

-- §7: "those of the sheets, then 11 for a subtotal's code above 2"
pub heaviest-numbers : (s : List ℕ) (code : ℕ) → numbers (heaviest_rules s code) ≡ 1 ∷ 2 ∷ 3 ∷ 4 ∷ 5 ∷ 6 ∷ 14 ∷ 7 ∷ 12 ∷ 13 ∷ 11 ∷ []
unfolding numbers block_rules
heaviest-numbers s code = refl

-- ---- the answers
-- judge: the edition and the counts, or a refusal
pub judge_by_order : (s : List ℕ) → ByOrder (rules s) (λ n p. verdict_of s ≡ Refused n p) (verdict_of s ≡ Ok (counts_of s))
unfolding verdict_of
judge_by_order s = by_order (verdict_by s) (verdict_told s) (rules s)

-- read: the edition and the counts, or a refusal
pub read_by_order : (s room : List ℕ) → ByOrder (read_rules s room) (λ n p. read_answer s room ≡ Refused n p) (read_answer s room ≡ Ok (counts_of s))
unfolding read_answer
read_by_order s room = by_order (verdict_by s) (verdict_told s) (read_rules s room)

-- figures: the sheets, or a refusal. "If an answer is an enum, a definition gives this paper's number and values for each of its cases. The promises use
-- that definition": it is `said`, and what the answer, `answered (outcome_of s)` by its contract, says is what 01 gives
pub figures_say : (s : List ℕ) → said (answered (outcome_of s)) ≡ outcome_of s
figures_say s = said_back (outcome_of s)

-- no other answer says the same
pub say_one : (a b : Answer) → said a ≡ said b → a ≡ b
say_one a b e = sym (answered_back a) ∙ ap answered e ∙ answered_back b

pub figures_by_order : (s : List ℕ)
    → ByOrder (rules s) (λ n p. said (answered (outcome_of s)) ≡ refusal n p) (said (answered (outcome_of s)) ≡ worked (figures_of (by_kind s)))
unfolding verdict_of
figures_by_order s = rw (figures_say s) (by_order (λ (u : Ruling). outcome_by s (verdict_by s u)) (figures_told s) (rules s))

-- subtotals: the three doubles, or a refusal
pub subtotals_by_order : (s : List ℕ) → ByOrder (rules s) (λ n p. answer_of s ≡ Refused n p) (answer_of s ≡ Ok (subtotals_of (rows 1 s)))
unfolding verdict_of
subtotals_by_order s = by_order (λ (u : Ruling). answer_by s (verdict_by s u)) (doubles_told s) (rules s)

-- write: the number of bytes, or a refusal
pub write_by_order : (edition : ℕ) (lengths rows room : List ℕ)
    → ByOrder (write_rules edition lengths rows room) (λ n p. write_answer edition lengths rows room ≡ Refused n p)
    (write_answer edition lengths rows room ≡ Ok (length (written edition (cut lengths rows))))
unfolding write_answer
write_by_order edition lengths rows room = by_order (written_by edition (cut lengths rows)) (written_told edition (cut lengths rows)) (write_rules edition lengths rows room)

-- heaviest: the row that weighs most in a subtotal, or none; or a refusal
pub heaviest_by_order : (s : List ℕ) (code : ℕ)
    → ByOrder (heaviest_rules s code) (λ n p. heaviest_answer s code ≡ Refused n p) (heaviest_answer s code ≡ named_of (heaviest_by code s))
heaviest_by_order s code = by_order (named_by s code) (named_told s code) (heaviest_rules s code)

-- ---- from C
-- "from C, then 11 and last 9"
pub c_judge_numbers : (s counts : List ℕ) → numbers (judge_rules s counts) ≡ 1 ∷ 2 ∷ 3 ∷ 4 ∷ 5 ∷ 6 ∷ 14 ∷ 7 ∷ 12 ∷ 13 ∷ 9 ∷ []
unfolding numbers block_rules
c_judge_numbers s counts = refl

pub c_subtotal_numbers : (s : List ℕ) (code : ℕ) (room : List ℕ) → numbers (subtotal_rules s code room) ≡ 1 ∷ 2 ∷ 3 ∷ 4 ∷ 5 ∷ 6 ∷ 14 ∷ 7 ∷ 12 ∷ 13 ∷ 11 ∷ 9 ∷ []
unfolding numbers block_rules
c_subtotal_numbers s code room = refl

pub c_heaviest-numbers : (s : List ℕ) (code : ℕ) (room : List ℕ) → numbers (heaviest_rules_c s code room) ≡ 1 ∷ 2 ∷ 3 ∷ 4 ∷ 5 ∷ 6 ∷ 14 ∷ 7 ∷ 12 ∷ 13 ∷ 11 ∷ 9 ∷ []
unfolding numbers block_rules
c_heaviest-numbers s code room = refl

pub c_figures-numbers : (s room : List ℕ) → numbers (figures_rules s room) ≡ 1 ∷ 2 ∷ 3 ∷ 4 ∷ 5 ∷ 6 ∷ 14 ∷ 7 ∷ 12 ∷ 13 ∷ 9 ∷ []
unfolding numbers block_rules
c_figures-numbers s room = refl

pub c_read-numbers : (s rows counts : List ℕ) → numbers (read_rules_c s rows counts) ≡ 1 ∷ 2 ∷ 3 ∷ 4 ∷ 5 ∷ 6 ∷ 14 ∷ 7 ∷ 12 ∷ 13 ∷ 9 ∷ []
unfolding numbers block_rules
c_read-numbers s rows counts = refl

pub c_write_numbers : (edition : ℕ) (rows lengths room size : List ℕ) → numbers (write_rules_c edition rows lengths room size) ≡ 10 ∷ 5 ∷ 6 ∷ 14 ∷ 7 ∷ 12 ∷ 13 ∷ 9 ∷ []
unfolding numbers list_rules
c_write_numbers edition rows lengths room size = refl

-- ---- "nothing lent has changed"
pub c_judge_unchanged : (s counts : List ℕ) (n p : ℕ) → counts_after s counts (Refused n p) ≡ counts
c_judge_unchanged s counts n p = refl

pub c_subtotal_unchanged : (s : List ℕ) (code : ℕ) (room : List ℕ) (n p : ℕ) → bits_after s code room (Refused n p) ≡ room
c_subtotal_unchanged s code room n p = refl

pub c_heaviest_unchanged : (s : List ℕ) (code : ℕ) (room : List ℕ) (n p : ℕ) → heaviest_after s code room (Refused n p) ≡ room
c_heaviest_unchanged s code room n p = refl

pub c_figures_unchanged : (s room : List ℕ) (n p : ℕ) → figures_after s room (Refused n p) ≡ room
c_figures_unchanged s room n p = refl

pub c_defaults_unchanged : (room : List ℕ) (n p : ℕ) → defaults_after room (Refused n p) ≡ room
c_defaults_unchanged room n p = refl

pub c_read_unchanged : (s rows counts : List ℕ) (n p : ℕ) → (rows_after s rows (Refused n p) ≡ rows) × (counts_after s counts (Refused n p) ≡ counts)
c_read_unchanged s rows counts n p = (refl, refl)

pub c_write_unchanged : (edition : ℕ) (rows lengths room size : List ℕ) (n p : ℕ)
    → (blocks_after edition rows lengths room (Refused n p) ≡ room) × (size_after edition rows lengths size (Refused n p) ≡ size)
c_write_unchanged edition rows lengths room size n p = (refl, refl)

pub read_unchanged : (s room : List ℕ) (n p : ℕ) → room_after s room (Refused n p) ≡ room
read_unchanged s room n p = refl

pub write_unchanged : (edition : ℕ) (lengths rows room : List ℕ) (n p : ℕ) → bytes_after edition lengths rows room (Refused n p) ≡ room
write_unchanged edition lengths rows room n p = refl

pub lines_unchanged : (text room : List ℕ) → text_after text room None ≡ room
lines_unchanged text room = refl

-- ---- "A refusal carries no figures": the text of one is one line, made of the number and the place
pub refused-text : (s : List ℕ) (n p : ℕ) → outcome_of s ≡ refusal n p → printed s ≡ refused_line n p
refused-text s n p e = ap text_of e

-- and that of an answer is a line for each figure of the list
pub worked_text : (s : List ℕ) (f : Figures) → outcome_of s ≡ worked f → printed s ≡ flat_map line_of (listed f)
worked_text s f e = ap text_of e
