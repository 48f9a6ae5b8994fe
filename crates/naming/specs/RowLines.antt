-- §7: the lines of a refusal behind its first, `name value` each, where a row is refused: which row it is, and the values that clash.
use Rattle.std.specs.Prelude.{ℕ, ◌/◌, ◌%◌, cond, List, [], ◌∷◌, ◌++◌, eqb}
use Rattle.form.specs.Layout.{parameters_kind}
use Rattle.phrases.specs.Ascii.{codes}
use Rattle.phrases.specs.Lines.{Line, number_line}
use Rattle.reasons.specs.declared.Row.{Row}
use Rattle.reasons.specs.declared.Reason.{Reason}
use Rattle.reasons.specs.declared.Reason.TheVariants.{BadLength, BadCheck, BadHeader, BadBlock, IdBelow, FieldAbove, FractionsAbove, ClearedAbove, SoilUneven, ScatteredTrees}
use Rattle.naming.specs.Names.{field_name, kind_name}

-- a name and a word
abbrev pub word_line : List ℕ → List ℕ → Line
word_line name word = record { name = name; value = word }

-- 01: "A record's place is 12 times its block plus its position", so `block` and `row` are the place's two parts; `kind_name` is the kind of that block
abbrev pub place_lines : Row → List Line
place_lines w =
    number_line (codes "block") (w.place / 12)
    ∷ number_line (codes "row") (w.place % 12)
    ∷ word_line (codes "kind_name") (kind_name w.kind)
    ∷ []

-- `id`, of every kind but the parameters, which have none
abbrev pub id_lines : Row → List Line
id_lines w = cond (eqb w.kind parameters_kind) [] (number_line (codes "id") w.id ∷ [])

-- which row it is: what every number of a row says first. Only 5 leaves the id to its own two lines
abbrev pub named_lines : Row → List Line
named_lines w = place_lines w ++ id_lines w

-- "`field` .., `field_name` .., `value`, `limit`"
abbrev pub limit_lines : ℕ → ℕ → ℕ → ℕ → List Line
limit_lines k i v l =
    number_line (codes "field") i
    ∷ word_line (codes "field_name") (field_name k i)
    ∷ number_line (codes "value") v
    ∷ number_line (codes "limit") l
    ∷ []

-- "`onsite`, `offsite`, `decay`, `sum`"
abbrev pub fractions_lines : ℕ → ℕ → ℕ → ℕ → List Line
fractions_lines n f d t = number_line (codes "onsite") n ∷ number_line (codes "offsite") f ∷ number_line (codes "decay") d ∷ number_line (codes "sum") t ∷ []

-- §11: `soil_type`, `area_now`, `area_then`: the type and its two sums
abbrev pub soil_lines : ℕ → ℕ → ℕ → List Line
soil_lines t n o = number_line (codes "soil_type") t ∷ number_line (codes "area_now") n ∷ number_line (codes "area_then") o ∷ []

-- §12: `unit_code`, `edition`: what stands in the row, and in the headers
abbrev pub trees_lines : ℕ → ℕ → List Line
trees_lines c e = number_line (codes "unit_code") c ∷ number_line (codes "edition") e ∷ []

-- by the number; 1 to 4 and 12 are of a block or of the whole return. A new number is a new case.
abbrev pub row_lines : Reason → List Line
row_lines (BadLength n) = []
row_lines (BadCheck b x y) = []
row_lines (BadHeader b h n e) = []
row_lines (BadBlock b h f) = []
row_lines (ClearedAbove u l) = []
-- 5
row_lines (IdBelow w x) = place_lines w ++ (number_line (codes "id_before") x ∷ number_line (codes "id") w.id ∷ [])
-- 6: the first field above its limit
row_lines (FieldAbove w i v l) = named_lines w ++ limit_lines w.kind i v l
-- 7: the fractions
row_lines (FractionsAbove w n f d t) = named_lines w ++ fractions_lines n f d t
-- 13: the soil type and its two area sums
row_lines (SoilUneven w t n o) = named_lines w ++ soil_lines t n o
-- 14: the unit code and the edition
row_lines (ScatteredTrees w c e) = named_lines w ++ trees_lines c e
