-- Why a text can't be packed: "the lines of the refusal as text, or `packed BYTES` of a good text". Assumes nothing.
use Rattle.std.specs.Prelude.{ℕ, ◌-◌, cond, List, [], ◌∷◌, ◌++◌, length, get_or, eqb, pos, ltb, Err}
use Rattle.form.specs.Ruling.{ruling}
use Rattle.form.specs.Refusals.{Clean, Ruling}
use Rattle.decimal.specs.Digits.{decimal}
use Rattle.phrases.specs.Ascii.{codes}
use Rattle.phrases.specs.Lines.{Line, line, number_line, refused_line, lines_text}
use Rattle.filing.specs.Lists.{cut, rows_in, filed_lists}
use Rattle.lists.specs.Rules.{list_rules}
use Rattle.rows.specs.Writing.{written}
use Rattle.naming.specs.Names.{kind_name, field_name}
use Rattle.naming.specs.RowLines.{word_line}
use Rattle.heads.specs.Heads.{fault_number}
use Rattle.heads.specs.declared.Fault.{Fault}
use Rattle.heads.specs.declared.Fault.TheVariants as F
use Rattle.heads.specs.declared.TextFault.{TextFault}
use Rattle.texts.specs.Texts.{TextRead, rows, faulty, text_read, row_line}
use Rattle.clashes.specs.Clashes.{clash_lines}
use Rattle.clashes.specs.Stands.{row_index}

-- the words of the text's faults, from 1 on
abbrev pub fault_words : List (List ℕ)
fault_words =
    codes "long"
    ∷ codes "edition"
    ∷ codes "kind"
    ∷ codes "order"
    ∷ codes "rows"
    ∷ codes "fields"
    ∷ codes "unit"
    ∷ codes "number"
    ∷ codes "decimals"
    ∷ codes "large"
    ∷ []

abbrev pub fault_word : ℕ → List ℕ
fault_word n = get_or ([] ∷ fault_words) n []

-- "`refused line N WORD`"
abbrev pub fault_line : TextFault → List ℕ
fault_line f = codes "refused line " ++ (decimal f.line ++ 32 ∷ (fault_word (fault_number f.fault) ++ 10 ∷ []))

-- "6 `fields` (then `due`, `found`)"
abbrev pub due_lines : ℕ → ℕ → List Line
due_lines due found = number_line (codes "due") due ∷ number_line (codes "found") found ∷ []

-- 7 to 10 "with `field` (as `explain` counts it) and `field_name`"
abbrev pub field_lines : ℕ → ℕ → List Line
field_lines kind field = number_line (codes "field") field ∷ word_line (codes "field_name") (field_name kind field) ∷ []

abbrev pub told_lines : Fault → List Line
told_lines F.Long = []
told_lines F.Edition = []
told_lines F.Kind = []
told_lines F.Order = []
told_lines F.Rows = []
told_lines (F.Fields due found) = due_lines due found
told_lines (F.Cell kind field fault) = field_lines kind field

abbrev pub fault_text : TextFault → List ℕ
fault_text f = fault_line f ++ lines_text (told_lines f.fault)

-- "(for 10 `edition`, or the kind's name and the rows found)"
abbrev pub found_lines : List ℕ → ℕ → List Line
found_lines lengths p = word_line (codes "kind_name") (kind_name p) ∷ number_line (codes "rows") (rows_in p (get_or lengths (p - 1) 0)) ∷ []

abbrev pub list_lines : ℕ → List ℕ → ℕ → List Line
list_lines edition lengths p = cond (eqb p 0) (number_line (codes "edition") edition ∷ []) (found_lines lengths p)

-- "and for 5, 6, 7, 13 and 14 `line N`, the line of that row"; 12 is of no row
abbrev pub line_lines : List ℕ → List ℕ → ℕ → ℕ → List Line
line_lines text lengths n p = cond (eqb n 12) [] (number_line (codes "line") (row_line (row_index lengths p) text) ∷ [])

-- writing's own
abbrev pub refusal_lines : List ℕ → ℕ → List ℕ → List ℕ → ℕ → ℕ → List Line
refusal_lines text edition lengths area n p =
    cond (eqb n 10) (list_lines edition lengths p)
    (clash_lines edition (filed_lists (cut lengths area)) n p ++ line_lines text lengths n p)

abbrev pub text_by : List ℕ → ℕ → List ℕ → List ℕ → Ruling → List ℕ
text_by text edition lengths area Clean = line (codes "packed") (pos (length (written edition (cut lengths area))))
text_by text edition lengths area (Err r) = refused_line r.number r.place ++ lines_text (refusal_lines text edition lengths area r.number r.place)

abbrev pub why_by : List ℕ → TextRead → List ℕ
why_by text (rows e lengths area) = text_by text e lengths area (ruling (list_rules e lengths area))
why_by text (faulty f) = fault_text f

-- of any text
abbrev pub pack_why : List ℕ → List ℕ
pack_why text = why_by text (text_read text)

-- room that is always enough for it
abbrev pub why_room : ℕ
why_room = 400
