-- The texts of names that the code has, each name with a space behind it, and the lines that they make. Assumes nothing.
use Prim.Native.Nat.{ℕ, ◌≤◌}
use mathlib.Core.Path.{◌≡◌, refl, ap}
use mathlib.Core.List.{List, [], ◌∷◌, ◌++◌, flat_map}
use native.Mathlib.Omega.{arith}
use lib.ListN.{length}
use types.Run.{OneOf, miss}
use denote.Enum.Declared.{tag_of}
use Rattle.phrases.specs.Ascii.{codes}
use Rattle.phrases.specs.Lines.{lines_text, spaces, filled_in, unsigned}
use Rattle.phrases.proofs.LineTexts.{item, lines}
use Rattle.faults.specs.contracts.Fault.{the_type}
use Rattle.faults.specs.declared.Fault.{Fault}
use Rattle.faults.specs.declared.Fault.TheVariants.{Order, End, Fourth, Count, Unfilled, Overfilled, Stray}
use Rattle.reasons.specs.contracts.Reason as reason
use Rattle.reasons.specs.declared.Header.{Header}
use Rattle.reasons.specs.declared.Reason.{Reason}
use Rattle.reasons.specs.declared.Reason.TheVariants.{BadLength, BadCheck, BadHeader, BadBlock, IdBelow, FieldAbove, FractionsAbove, ClearedAbove, SoilUneven, ScatteredTrees}
use Rattle.naming.specs.RowLines.{row_lines}
use Rattle.wording.specs.Wording.{word_of, fault_line, header_lines, fault_lines, due_lines, wood_lines, value_lines}

abbrev pub header_names : List ℕ
header_names = codes "kind count number blocks edition "

abbrev pub due_names : List ℕ
due_names = codes "number_due blocks_due edition_first "

pub header_text : (h : Header) → filled_in header_names (unsigned (h.kind ∷ h.count ∷ h.number ∷ h.blocks ∷ h.edition ∷ [])) ≡ lines_text (header_lines h)
unfolding flat_map spaces
header_text h = lines (item (codes "kind") h.kind ∷ item (codes "count") h.count ∷ item (codes "number") h.number ∷ item (codes "blocks") h.blocks ∷ item (codes "edition") h.edition ∷ []) refl

pub due_text : (b n e : ℕ) → filled_in due_names (unsigned (b ∷ n ∷ e ∷ [])) ≡ lines_text (due_lines b n e)
unfolding flat_map spaces
due_text b n e = lines (item (codes "number_due") b ∷ item (codes "blocks_due") n ∷ item (codes "edition_first") e ∷ []) refl

abbrev pub wood_names : List ℕ
wood_names = codes "used cleared "

pub wood-text : (u l : ℕ) → filled_in wood_names (unsigned (u ∷ l ∷ [])) ≡ lines_text (wood_lines u l)
unfolding flat_map spaces
wood-text u l = lines (item (codes "used") u ∷ item (codes "cleared") l ∷ []) refl

-- the faults that have nothing beside the header
pub plain_lines : (h : Header) (f : Fault) → OneOf (1 ∷ 2 ∷ 3 ∷ 5 ∷ []) (tag_of the_type f) → fault_lines h f ≡ header_lines h
plain_lines h (Order k) o = absurd (miss (1 ∷ 2 ∷ 3 ∷ 5 ∷ []) 0 tt o)
plain_lines h End o = refl
plain_lines h Fourth o = refl
plain_lines h Count o = refl
plain_lines h (Unfilled k) o = absurd (miss (1 ∷ 2 ∷ 3 ∷ 5 ∷ []) 4 tt o)
plain_lines h Overfilled o = refl
plain_lines h (Stray i b) o = absurd (miss (1 ∷ 2 ∷ 3 ∷ 5 ∷ []) 6 tt o)

-- the word of a fault, which is short, and its line
pub word-short : (f : Fault) → length (word_of f) ≤ 10
word-short (Order k) = omega arith
word-short End = omega arith
word-short Fourth = omega arith
word-short Count = omega arith
word-short (Unfilled k) = omega arith
word-short Overfilled = omega arith
word-short (Stray i b) = omega arith

pub word-text : (f : Fault) (word : List ℕ) → word ≡ word_of f → (codes "fault " ++ word) ++ 10 ∷ [] ≡ lines_text (fault_line f ∷ [])
unfolding lines_text
word-text f word e = ap (λ (w : List ℕ). (codes "fault " ++ w) ++ 10 ∷ []) e

-- the numbers of one row
pub row-lines : (r : Reason) → OneOf (4 ∷ 5 ∷ 6 ∷ 8 ∷ 9 ∷ []) (tag_of reason.the_type r) → row_lines r ≡ value_lines r
row-lines (BadLength n) o = absurd (miss (4 ∷ 5 ∷ 6 ∷ 8 ∷ 9 ∷ []) 0 tt o)
row-lines (BadCheck b x y) o = absurd (miss (4 ∷ 5 ∷ 6 ∷ 8 ∷ 9 ∷ []) 1 tt o)
row-lines (BadHeader b h n e) o = absurd (miss (4 ∷ 5 ∷ 6 ∷ 8 ∷ 9 ∷ []) 2 tt o)
row-lines (BadBlock b h f) o = absurd (miss (4 ∷ 5 ∷ 6 ∷ 8 ∷ 9 ∷ []) 3 tt o)
row-lines (IdBelow w x) o = refl
row-lines (FieldAbove w i v l) o = refl
row-lines (FractionsAbove w n f d t) o = refl
row-lines (ClearedAbove u l) o = absurd (miss (4 ∷ 5 ∷ 6 ∷ 8 ∷ 9 ∷ []) 7 tt o)
row-lines (SoilUneven w t n o) k = refl
row-lines (ScatteredTrees w c e) o = refl
