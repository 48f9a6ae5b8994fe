-- The texts of names that the code has, each name with a space behind it, and the lines that they make. Assumes nothing.
--     no_lines      the numbers of the whole return and of a block have no lines here
--     no_id, with_id    the lines that name a row, of the parameters and of another kind
use Prim.Native.Nat.{ℕ, ◌/◌, ◌%◌}
use mathlib.Core.Path.{◌≡◌, refl, sym, ◌∙◌}
use mathlib.Core.List.{List, [], ◌∷◌, ◌++◌, append_assoc, flat_map}
use borrow.Author.Tests.{eq-eqb, ne_eqb}
use types.Run.{OneOf, miss}
use denote.Enum.Declared.{tag_of}
use Rattle.phrases.specs.Ascii.{codes}
use Rattle.phrases.specs.Lines.{number_line, lines_text, spaces, filled_in, unsigned}
use Rattle.phrases.proofs.LineTexts.{text_append, item, lines}
use Rattle.reasons.specs.contracts.Reason.{the_type}
use Rattle.reasons.specs.declared.Row.{Row}
use Rattle.reasons.specs.declared.Reason.{Reason}
use Rattle.reasons.specs.declared.Reason.TheVariants.{BadLength, BadCheck, BadHeader, BadBlock, IdBelow, FieldAbove, FractionsAbove, ClearedAbove, SoilUneven, ScatteredTrees}
use Rattle.form.specs.Layout.{parameters_kind}
use Rattle.naming.specs.Names.{field_name, kind_name}
use Rattle.naming.specs.RowLines.{word_line, place_lines, named_lines, limit_lines, fractions_lines, soil_lines, row_lines}

abbrev pub fractions_names : List ℕ
fractions_names = codes "onsite offsite decay sum "

pub fractions_text : (n f d t : ℕ) → filled_in fractions_names (unsigned (n ∷ f ∷ d ∷ t ∷ [])) ≡ lines_text (fractions_lines n f d t)
unfolding flat_map spaces
fractions_text n f d t = lines (item (codes "onsite") n ∷ item (codes "offsite") f ∷ item (codes "decay") d ∷ item (codes "sum") t ∷ []) refl

abbrev pub soil_names : List ℕ
soil_names = codes "soil_type area_now area_then "

pub soil-text : (t n o : ℕ) → filled_in soil_names (unsigned (t ∷ n ∷ o ∷ [])) ≡ lines_text (soil_lines t n o)
unfolding flat_map spaces
soil-text t n o = lines (item (codes "soil_type") t ∷ item (codes "area_now") n ∷ item (codes "area_then") o ∷ []) refl

pub no_lines : (r : Reason) → OneOf (0 ∷ 1 ∷ 2 ∷ 3 ∷ 7 ∷ []) (tag_of the_type r) → row_lines r ≡ []
no_lines (BadLength n) o = refl
no_lines (BadCheck b x y) o = refl
no_lines (BadHeader b h n e) o = refl
no_lines (BadBlock b h f) o = refl
no_lines (IdBelow w x) o = absurd (miss (0 ∷ 1 ∷ 2 ∷ 3 ∷ 7 ∷ []) 4 tt o)
no_lines (FieldAbove w i v l) o = absurd (miss (0 ∷ 1 ∷ 2 ∷ 3 ∷ 7 ∷ []) 5 tt o)
no_lines (FractionsAbove w n f d t) o = absurd (miss (0 ∷ 1 ∷ 2 ∷ 3 ∷ 7 ∷ []) 6 tt o)
no_lines (ClearedAbove u l) o = refl
no_lines (SoilUneven w t n o) k = absurd (miss (0 ∷ 1 ∷ 2 ∷ 3 ∷ 7 ∷ []) 8 tt k)
no_lines (ScatteredTrees w c e) o = absurd (miss (0 ∷ 1 ∷ 2 ∷ 3 ∷ 7 ∷ []) 9 tt o)

-- the field's number, its name and its value, part by part
four : (x f n e t : List ℕ) → ((((x ++ f) ++ n) ++ e) ++ t) ≡ x ++ (f ++ (n ++ (e ++ t)))
four x f n e t = append_assoc ((x ++ f) ++ n) e t ∙ append_assoc (x ++ f) n (e ++ t) ∙ append_assoc x f (n ++ (e ++ t))

abbrev pub field_name_text : List ℕ
field_name_text = codes "field_name "

pub limit_text : (k i v l : ℕ)
    → ((((lines_text (number_line (codes "field") i ∷ []) ++ field_name_text) ++ field_name k i) ++ 10 ∷ []) ++ lines_text (number_line (codes "value") v ∷ number_line (codes "limit") l ∷ [])) ≡ lines_text (limit_lines k i v l)
unfolding lines_text
limit_text k i v l =
    four (lines_text (number_line (codes "field") i ∷ [])) field_name_text (field_name k i) (10 ∷ []) (lines_text (number_line (codes "value") v ∷ number_line (codes "limit") l ∷ []))
    ∙ sym (text_append (number_line (codes "field") i ∷ []) (word_line (codes "field_name") (field_name k i) ∷ number_line (codes "value") v ∷ number_line (codes "limit") l ∷ []))

-- where a row stands, part by part
abbrev pub kind_name_text : List ℕ
kind_name_text = codes "kind_name "

pub place-text : (w : Row) (b r : ℕ) → b ≡ w.place / 12 → r ≡ w.place % 12
    → (((lines_text (number_line (codes "block") b ∷ number_line (codes "row") r ∷ []) ++ kind_name_text) ++ kind_name w.kind) ++ 10 ∷ [])
    ≡ lines_text (place_lines w)
unfolding lines_text
place-text w b r e f =
    let xs = number_line (codes "block") b ∷ number_line (codes "row") r ∷ [] in
    append_assoc (lines_text xs ++ kind_name_text) (kind_name w.kind) (10 ∷ [])
    ∙ append_assoc (lines_text xs) kind_name_text (kind_name w.kind ++ 10 ∷ [])
    ∙ sym (text_append xs (word_line (codes "kind_name") (kind_name w.kind) ∷ []))
    ∙ rw (e, f) refl

pub no_id : (w : Row) → w.kind ≡ parameters_kind → place_lines w ≡ named_lines w
no_id w e = rw (eq-eqb w.kind parameters_kind e) refl

pub with_id : (w : Row) → (w.kind ≡ parameters_kind → ⊥) → place_lines w ++ (number_line (codes "id") w.id ∷ []) ≡ named_lines w
with_id w e = rw (ne_eqb w.kind parameters_kind e) refl
