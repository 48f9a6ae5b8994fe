-- §7: the lines of a refusal behind its first, `name value` each: the values that clash; §8: "The explaining tool then shows 100K and L."
use Rattle.std.specs.Prelude.{ℕ, List, [], ◌∷◌, ◌++◌}
use Rattle.phrases.specs.Ascii.{codes}
use Rattle.phrases.specs.Lines.{Line, number_line}
use Rattle.faults.specs.declared.Fault.{Fault}
use Rattle.faults.specs.declared.Fault.TheVariants.{Order, End, Fourth, Count, Unfilled, Overfilled, Stray}
use Rattle.reasons.specs.declared.Header.{Header}
use Rattle.reasons.specs.declared.Reason.{Reason}
use Rattle.reasons.specs.declared.Reason.TheVariants.{BadLength, BadCheck, BadHeader, BadBlock, IdBelow, FieldAbove, FractionsAbove, ClearedAbove, SoilUneven, ScatteredTrees}
use Rattle.naming.specs.RowLines.{word_line, row_lines}

-- "the block's header, five lines"
abbrev pub header_lines : Header → List Line
header_lines h =
    number_line (codes "kind") h.kind
    ∷ number_line (codes "count") h.count
    ∷ number_line (codes "number") h.number
    ∷ number_line (codes "blocks") h.blocks
    ∷ number_line (codes "edition") h.edition
    ∷ []

-- "`fault` with a word"
abbrev pub word_of : Fault → List ℕ
word_of (Order k) = codes "order"
word_of End = codes "end"
word_of Fourth = codes "fourth"
word_of Count = codes "count"
word_of (Unfilled k) = codes "unfilled"
word_of Overfilled = codes "overfilled"
word_of (Stray i b) = codes "stray"

abbrev pub fault_line : Fault → Line
fault_line f = word_line (codes "fault") (word_of f)

-- "then the five header lines, and after them `kind_before` for `order`, `kind_next` for `unfilled`. `fault stray`: then only `offset` and `byte`"
abbrev pub fault_lines : Header → Fault → List Line
fault_lines h (Order k) = header_lines h ++ (number_line (codes "kind_before") k ∷ [])
fault_lines h End = header_lines h
fault_lines h Fourth = header_lines h
fault_lines h Count = header_lines h
fault_lines h (Unfilled k) = header_lines h ++ (number_line (codes "kind_next") k ∷ [])
fault_lines h Overfilled = header_lines h
fault_lines h (Stray i b) = number_line (codes "offset") i ∷ number_line (codes "byte") b ∷ []

-- "then `number_due`, `blocks_due` (from the place and the length) and `edition_first` (block 0's)"
abbrev pub due_lines : ℕ → ℕ → ℕ → List Line
due_lines b n e = number_line (codes "number_due") b ∷ number_line (codes "blocks_due") n ∷ number_line (codes "edition_first") e ∷ []

-- `used`, 100 K, and `cleared`, L
abbrev pub wood_lines : ℕ → ℕ → List Line
wood_lines u l = number_line (codes "used") u ∷ number_line (codes "cleared") l ∷ []

-- by the number. A new number is a new case.
abbrev pub value_lines : Reason → List Line
-- 1
value_lines (BadLength n) = number_line (codes "length") n ∷ []
-- 2
value_lines (BadCheck b x y) = number_line (codes "stored") x ∷ number_line (codes "computed") y ∷ []
-- 3: the header, and what is due
value_lines (BadHeader b h n e) = header_lines h ++ due_lines b n e
-- 4: the first fault
value_lines (BadBlock b h f) = fault_line f ∷ fault_lines h f
-- 5 to 7, 13 and 14: those of a row
value_lines (IdBelow w x) = row_lines (IdBelow w x)
value_lines (FieldAbove w i v l) = row_lines (FieldAbove w i v l)
value_lines (FractionsAbove w n f d t) = row_lines (FractionsAbove w n f d t)
value_lines (SoilUneven w t n o) = row_lines (SoilUneven w t n o)
value_lines (ScatteredTrees w c e) = row_lines (ScatteredTrees w c e)
-- 12: of the whole return, and of no row
value_lines (ClearedAbove u l) = wood_lines u l
