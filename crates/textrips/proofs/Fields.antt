-- The line of a row, read field by field. Assumes nothing.
--     field_plain     each field that is printed comes back; line-cells: the cells of a row's line are the kind's name and the fields
--     field-said      and each says its number
use Prim.Native.Nat.{ℕ, zero, suc, ◌/◌, ◌^◌, ◌<◌, ◌≤◌}
use mathlib.Core.Path.{◌≡◌, refl, ap, ◌∙◌}
use mathlib.Core.Bool.{Bool, true, false, cond}
use mathlib.Core.List.{List, [], ◌∷◌, ◌++◌}
use native.Mathlib.Decide.{dec_lt}
use native.Mathlib.Omega.{arith}
use borrow.Author.Tests.{eqb-true}
use lib.Dec.{eqb, lit<}
use lib.ListN.{length, get_or, length-append, get_or-append}
use lib.Seq.{get_or_at}
use Rattle.std.specs.Prelude.{Ok}
use Rattle.form.specs.Layout.{numbers_of}
use Rattle.form.specs.Records.{unit_code}
use Rattle.form.proofs.Tests.{and-true}
use Rattle.decimal.specs.Digits.{decimal, padded}
use Rattle.phrases.specs.Ascii.{codes}
use Rattle.cells.specs.Cells.{cell_at, found_in, small, same_word}
use Rattle.cells.proofs.FieldLaws.{Plain, AllPlain, cells-joined, found_joined}
use Rattle.numerals.specs.Written.{pointed, printed}
use Rattle.numerals.proofs.Amounts.{decimal-digits, decimal_some, padded-digits}
use Rattle.numerals.proofs.Meaning.{reads_back}
use Rattle.naming.specs.Names.{kind_name}
use Rattle.columns.specs.Columns.{decimals_of, is_unit}
use Rattle.columns.proofs.ColumnLaws.{by_unit}
use Rattle.rowtext.specs.Said.{number_said, unit_said, cell_said, unit_in, number_in, said_at}
use Rattle.unpacked.specs.Unpacked.{unit_word, field_text, field_texts, row_line}
use Rattle.textrips.proofs.Neat.{neat, is_neat, neat_append, neat-digits, neat-plain}

-- a text that is neat, and is there
pub record Clean (l : List ℕ) : Type 0 where
  pub all : neat l ≡ true
  pub some : 0 < length l

pointed-neat : (d n : ℕ) → neat (pointed d n) ≡ true
unfolding pointed neat is_neat
pointed-neat zero n = refl
pointed-neat (suc d) n = neat-digits (padded (suc d) n) (padded-digits (suc d) n)

printed-clean : (d n : ℕ) → Clean (printed d n)
printed-clean d n =
    let q = n / 10 ^ d in
    record {
      all = neat_append (decimal q) (pointed d n) (neat-digits (decimal q) (decimal-digits q)) (pointed-neat d n);
      some = omega (arith, length-append (decimal q) (pointed d n), decimal_some q);
    }

unit-clean : (code : ℕ) → Clean (unit_word code)
unfolding unit_word neat is_neat
unit-clean code = by (eqb code 1)
  where
    by : (t : Bool) → Clean (cond t (codes "trees") (codes "land"))
    by true = record { all = refl; some = omega arith }
    by false = record { all = refl; some = omega arith }

pub field-clean : (kind : ℕ) (r : List ℕ) (i : ℕ) → Clean (field_text kind r i)
unfolding field_text
field-clean kind r i = by (is_unit kind i)
  where
    by : (t : Bool) → Clean (cond t (unit_word (get_or r i 0)) (printed (decimals_of kind (unit_code r) i) (get_or r i 0)))
    by true = unit-clean (get_or r i 0)
    by false = printed-clean (decimals_of kind (unit_code r) i) (get_or r i 0)

field_plain : (kind : ℕ) (r : List ℕ) (i : ℕ) → Plain 44 (field_text kind r i)
field_plain kind r i = let c = field-clean kind r i in neat-plain (field_text kind r i) c.all c.some

-- ---- the fields of a line

texts_length : (kind : ℕ) (r : List ℕ) (n : ℕ) → length (field_texts kind r n) ≡ n
unfolding field_texts
texts_length kind r zero = refl
texts_length kind r (suc n) = length-append (field_texts kind r n) (field_text kind r n ∷ []) ∙ omega (arith, texts_length kind r n)

plain_append : (xs ys : List (List ℕ)) → AllPlain 44 xs → AllPlain 44 ys → AllPlain 44 (xs ++ ys)
plain_append [] ys a b = b
plain_append (x ∷ xs) ys a b = (a.0, plain_append xs ys a.1 b)

all_plain : (kind : ℕ) (r : List ℕ) (n : ℕ) → AllPlain 44 (field_texts kind r n)
unfolding field_texts
all_plain kind r zero = tt
all_plain kind r (suc n) = plain_append (field_texts kind r n) (field_text kind r n ∷ []) (all_plain kind r n) (field_plain kind r n, tt)

text_at : (kind : ℕ) (r : List ℕ) (n i : ℕ) → i < n → get_or (field_texts kind r n) i [] ≡ field_text kind r i
unfolding field_texts
text_at kind r zero i h = absurd (omega arith)
text_at kind r (suc n) i h = by (dec_lt i n) (text_at kind r n i)
  where
    by : Dec (i < n) → (i < n → get_or (field_texts kind r n) i [] ≡ field_text kind r i) → get_or (field_texts kind r n ++ field_text kind r n ∷ []) i [] ≡ field_text kind r i
    by (yes l) before = get_or-append (field_texts kind r n) (field_text kind r n ∷ []) [] i (omega (arith, l, texts_length kind r n)) ∙ before l
    by (no l) before =
        let q : n ≡ i = omega (arith, l) in
        get_or_at (field_texts kind r n) (field_text kind r n) [] [] i (texts_length kind r n ∙ q) ∙ ap (field_text kind r) q

-- ---- what a field says, by what it is

word-said : (code : ℕ) → code ≤ 1 → unit_said (unit_word code) ≡ Ok code
unfolding unit_said unit_word same_word small
word-said zero l = refl
word-said (suc zero) l = refl
word-said (suc (suc n)) l = absurd (omega arith)

unit-field : (kind : ℕ) (r : List ℕ) (i : ℕ) → is_unit kind i ≡ true → field_text kind r i ≡ unit_word (get_or r i 0)
unfolding field_text
unit-field kind r i e = rw e

-- the one field that is a unit
which_unit : (kind i : ℕ) → is_unit kind i ≡ true → (kind ≡ 2) × (i ≡ 1)
unfolding is_unit
which_unit kind i e = let p = and-true (eqb kind 2) (eqb i 1) e in (eqb-true kind 2 p.0, eqb-true i 1 p.1)

said-unit : (kind : ℕ) (r : List ℕ) (u i : ℕ) → is_unit kind i ≡ true → (kind ≡ 2 → get_or r 1 0 ≤ 1) → cell_said 44 kind u i (field_text kind r i) ≡ Ok (get_or r i 0)
unfolding cell_said
said-unit kind r u i e unit =
    let w = which_unit kind i e in
    let l : get_or r i 0 ≤ 1 = rw w.1 (unit w.0) in
    rw (e, unit-field kind r i e) (word-said (get_or r i 0) l)

said-number : (kind : ℕ) (r : List ℕ) (u i : ℕ) → is_unit kind i ≡ false → decimals_of kind u i ≡ decimals_of kind (unit_code r) i → get_or r i 0 ≤ 4294967295
    → cell_said 44 kind u i (field_text kind r i) ≡ Ok (get_or r i 0)
unfolding cell_said field_text
said-number kind r u i e d l = rw (e, d) (ap number_said (reads_back false (decimals_of kind (unit_code r) i) (get_or r i 0) l))

module _ (kind : ℕ) (r : List ℕ) (named : Plain 44 (kind_name kind)) where
  pub name-cell : cell_at 44 0 (row_line kind r) ≡ kind_name kind
  name-cell = cells-joined 44 (kind_name kind) (field_texts kind r (numbers_of kind)) 0 named (all_plain kind r (numbers_of kind))

  pub field-cell : (i : ℕ) → i < numbers_of kind → cell_at 44 (suc i) (row_line kind r) ≡ field_text kind r i
  field-cell i h =
      cells-joined 44 (kind_name kind) (field_texts kind r (numbers_of kind)) (suc i) named (all_plain kind r (numbers_of kind)) ∙ text_at kind r (numbers_of kind) i h

  pub fields_found : found_in 44 (row_line kind r) ≡ numbers_of kind
  fields_found =
      found_joined 44 (kind_name kind) (field_texts kind r (numbers_of kind)) named (all_plain kind r (numbers_of kind)) ∙ texts_length kind r (numbers_of kind)

  -- ---- what they say

  module _ (few : (i : ℕ) → get_or r i 0 ≤ 4294967295) (unit : kind ≡ 2 → get_or r 1 0 ≤ 1) where
    -- of a stock row, the unit that its line says is the row's
    unit_there : kind ≡ 2 → unit_in 44 (row_line kind r) ≡ unit_code r
    unfolding field_text is_unit
    unit_there two =
        let c = field-cell 1 (rw two (lit< tt)) in
        let t : is_unit kind 1 ≡ true = rw two refl in
        ap (λ (x : List ℕ). number_in (unit_said x)) (c ∙ unit-field kind r 1 t) ∙ ap number_in (word-said (get_or r 1 0) (unit two))

    pub field-said : (i : ℕ) → i < numbers_of kind → said_at 44 kind (row_line kind r) i ≡ Ok (get_or r i 0)
    field-said i h = ap (cell_said 44 kind (unit_in 44 (row_line kind r)) i) (field-cell i h) ∙ by (is_unit kind i) refl
      where
        by : (t : Bool) → is_unit kind i ≡ t → cell_said 44 kind (unit_in 44 (row_line kind r)) i (field_text kind r i) ≡ Ok (get_or r i 0)
        by true e = said-unit kind r (unit_in 44 (row_line kind r)) i e unit
        by false e =
            said-number kind r (unit_in 44 (row_line kind r)) i e (by_unit kind (unit_in 44 (row_line kind r)) (unit_code r) i (λ two l. unit_there two)) (few i)
