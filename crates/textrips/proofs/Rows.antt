-- The lines that `unpack` prints, read one by one. Assumes nothing.
--     row_back        a row whose numbers fit is read from its line; note-passed: a kind's note is passed over
--     row-whole, note-whole, head-whole    none of them has a line end in it
use Prim.Native.Nat.{ℕ, zero, suc, ◌<◌, ◌≤◌}
use mathlib.Core.Path.{◌≡◌, refl, ap, ◌∙◌}
use mathlib.Core.Bool.{Bool, true, false, ◌&&◌}
use mathlib.Core.List.{List, [], ◌∷◌, ◌++◌}
use native.Mathlib.Omega.{arith}
use borrow.Author.Tests.{ne_eqb, eqb-false}
use lib.Dec.{eqb}
use lib.ListN.{length, get_or}
use Rattle.form.specs.Layout.{kinds, numbers_of}
use Rattle.form.proofs.Tests.{or_none}
use Rattle.decimal.specs.Digits.{decimal}
use Rattle.phrases.specs.Ascii.{codes}
use Rattle.cells.specs.Lines.{has, last_of}
use Rattle.cells.specs.Cells.{blank_in, front_off, is_filler, is_empty_line, begins_note, small, same_word, joined}
use Rattle.cells.proofs.FieldLaws.{Plain}
use Rattle.cells.proofs.LineLaws.{Whole}
use Rattle.numerals.proofs.Amounts.{decimal-digits, decimal_some}
use Rattle.naming.specs.Names.{kind_name}
use Rattle.columns.specs.Columns.{kind_named, named_from, columns_of}
use Rattle.rowtext.proofs.Laws.{says-whole}
use Rattle.heads.specs.Heads.{is_passed, edition_word}
use Rattle.unpacked.specs.Unpacked.{field_text, field_texts, row_line, heading, headings, note_line, edition_line}
use Rattle.textrips.proofs.Neat.{is_neat, neat, neat-digits, neat-plain, no_filler, no_note, no_byte}
use Rattle.textrips.proofs.Fields.{Clean, field-clean, name-cell, fields_found, field-said}
use Rattle.textrips.proofs.Lines.{Back}

-- ---- the kinds' names

pub record Named (kind : ℕ) : Type 0 where
  pub clean : Clean (kind_name kind)
  pub no_head : same_word edition_word (kind_name kind) ≡ false
  pub named : kind_named (kind_name kind) ≡ kind

-- computed, kind by kind
pub each_named : (kind : ℕ) → 0 < kind → kind ≤ kinds → Named kind
unfolding kinds neat is_neat same_word small named_from
each_named zero h l = absurd (omega arith)
each_named (suc zero) h l = record { clean = record { all = refl; some = omega arith }; no_head = refl; named = refl }
each_named (suc (suc zero)) h l = record { clean = record { all = refl; some = omega arith }; no_head = refl; named = refl }
each_named (suc (suc (suc zero))) h l = record { clean = record { all = refl; some = omega arith }; no_head = refl; named = refl }
each_named (suc (suc (suc (suc zero)))) h l = record { clean = record { all = refl; some = omega arith }; no_head = refl; named = refl }
each_named (suc (suc (suc (suc (suc zero))))) h l = record { clean = record { all = refl; some = omega arith }; no_head = refl; named = refl }
each_named (suc (suc (suc (suc (suc (suc zero)))))) h l = record { clean = record { all = refl; some = omega arith }; no_head = refl; named = refl }
each_named (suc (suc (suc (suc (suc (suc (suc zero))))))) h l = record { clean = record { all = refl; some = omega arith }; no_head = refl; named = refl }
each_named (suc (suc (suc (suc (suc (suc (suc (suc zero)))))))) h l = record { clean = record { all = refl; some = omega arith }; no_head = refl; named = refl }
each_named (suc (suc (suc (suc (suc (suc (suc (suc (suc k))))))))) h l = absurd (omega arith)

-- ---- what counts, and what is passed over

joined-first : (b : ℕ) (x : List ℕ) (fs : List (List ℕ)) → joined 44 ((b ∷ x) ∷ fs) ≡ b ∷ joined 44 (x ∷ fs)
unfolding joined
joined-first b x [] = refl
joined-first b x (f ∷ fs) = refl

neat-counts : (b : ℕ) (l : List ℕ) → is_neat b ≡ true → is_passed 44 (b ∷ l) ≡ false
unfolding is_empty_line front_off begins_note
neat-counts b l e =
    let n = no_note b e in
    rw (no_filler b e, n.0, n.1, n.2) refl

line-counts : (name : List ℕ) (fs : List (List ℕ)) → Clean name → is_passed 44 (joined 44 (name ∷ fs)) ≡ false
unfolding neat
line-counts [] fs c = let s = c.some in absurd (omega arith)
line-counts (b ∷ x) fs c = ap (is_passed 44) (joined-first b x fs) ∙ neat-counts b (joined 44 (x ∷ fs)) (first b x c.all)
  where
    first : (b : ℕ) (x : List ℕ) → (is_neat b && neat x) ≡ true → is_neat b ≡ true
    first b x e = by (is_neat b) e
      where
        by : (t : Bool) → (t && neat x) ≡ true → t ≡ true
        by true q = refl
        by false q = q

sharp_passed : (l : List ℕ) → is_passed 44 (35 ∷ l) ≡ true
unfolding is_empty_line is_filler front_off blank_in begins_note
sharp_passed l = refl

pub note-passed : (kind : ℕ) → is_passed 44 (note_line kind) ≡ true
unfolding note_line
note-passed kind =
    let fs = headings kind 0 (columns_of kind 0) in
    ap (is_passed 44) (joined-first 35 (32 ∷ kind_name kind) fs) ∙ sharp_passed (joined 44 ((32 ∷ kind_name kind) ∷ fs))

-- ---- a row

pub row_back : (kind : ℕ) (r : List ℕ) → 0 < kind → kind ≤ kinds → length r ≡ numbers_of kind → ((i : ℕ) → get_or r i 0 ≤ 4294967295)
    → (kind ≡ 2 → get_or r 1 0 ≤ 1) → Back kind r
row_back kind r low high long few unit =
    let n = each_named kind low high in
    let p : Plain 44 (kind_name kind) = neat-plain (kind_name kind) n.clean.all n.clean.some in
    let w = says-whole 44 kind (row_line kind r) r long (field-said kind r p few unit) in
    record {
      counts = line-counts (kind_name kind) (field_texts kind r (numbers_of kind)) n.clean;
      no_head = ap (same_word edition_word) (name-cell kind r p) ∙ n.no_head;
      known = low;
      named = ap kind_named (name-cell kind r p) ∙ n.named;
      fields = fields_found kind r p;
      whole = w.0;
      numbers = w.1;
    }

-- ---- no line end in a line

no_last : (l : List ℕ) → has 13 l ≡ false → last_of l ≡ 13 → ⊥
unfolding has last_of
no_last [] b q = absurd (omega arith)
no_last (x ∷ []) b q = eqb-false x 13 (or_none (eqb x 13) false b).0 q
no_last (x ∷ y ∷ l) b q = no_last (y ∷ l) (or_none (eqb x 13) (has 13 (y ∷ l)) b).1 q

-- a text without an LF and without a CR may be printed as a line
whole_of : (l : List ℕ) → has 10 l ≡ false → has 13 l ≡ false → Whole l
whole_of l a b = record { no_end = a; no_return = no_last l b }

whole_by : (l : List ℕ) → ((c : ℕ) → c ≤ 35 → has c l ≡ false) → Whole l
whole_by l none = whole_of l (none 10 (omega arith)) (none 13 (omega arith))

has_none : (c : ℕ) (x y : List ℕ) → has c x ≡ false → has c y ≡ false → has c (x ++ y) ≡ false
unfolding has
has_none c [] y a b = b
has_none c (d ∷ x) y a b = let g = or_none (eqb d c) (has c x) a in rw g.0 (has_none c x y g.1 b)

abbrev AllClean : List (List ℕ) → Type 0
AllClean [] = Unit {0}
AllClean (f ∷ fs) = Clean f × AllClean fs

-- clean fields with commas between them
joined_none : (c : ℕ) → c ≤ 35 → (fs : List (List ℕ)) → AllClean fs → has c (joined 44 fs) ≡ false
unfolding joined has
joined_none c h [] a = refl
joined_none c h (f ∷ []) a = no_byte c h f a.0.all
joined_none c h (f ∷ g ∷ fs) a =
    let z : eqb 44 c ≡ false = ne_eqb 44 c (λ q. absurd (omega arith)) in
    has_none c f (44 ∷ joined 44 (g ∷ fs)) (no_byte c h f a.0.all) (rw z (joined_none c h (g ∷ fs) a.1))

clean_append : (xs ys : List (List ℕ)) → AllClean xs → AllClean ys → AllClean (xs ++ ys)
clean_append [] ys a b = b
clean_append (x ∷ xs) ys a b = (a.0, clean_append xs ys a.1 b)

all_clean : (kind : ℕ) (r : List ℕ) (n : ℕ) → AllClean (field_texts kind r n)
unfolding field_texts
all_clean kind r zero = tt
all_clean kind r (suc n) = clean_append (field_texts kind r n) (field_text kind r n ∷ []) (all_clean kind r n) (field-clean kind r n, tt)

pub row-whole : (kind : ℕ) (r : List ℕ) → 0 < kind → kind ≤ kinds → Whole (row_line kind r)
row-whole kind r low high =
    whole_by (row_line kind r)
    (λ c h. joined_none c h (kind_name kind ∷ field_texts kind r (numbers_of kind)) ((each_named kind low high).clean, all_clean kind r (numbers_of kind)))

pub head-whole : (e : ℕ) → Whole (edition_line e)
unfolding neat is_neat joined
head-whole e = whole_by (edition_line e) (λ c h. joined_none c h (codes "edition" ∷ decimal e ∷ []) (word, (digits, tt)))
  where
    word : Clean (codes "edition")
    word = record { all = refl; some = omega arith }

    digits : Clean (decimal e)
    digits = record { all = neat-digits (decimal e) (decimal-digits e); some = decimal_some e }

-- computed, kind by kind
pub note-whole : (kind : ℕ) → 0 < kind → kind ≤ kinds → Whole (note_line kind)
unfolding kinds note_line headings heading joined has
note-whole zero h l = absurd (omega arith)
note-whole (suc zero) h l = whole_of (note_line 1) refl refl
note-whole (suc (suc zero)) h l = whole_of (note_line 2) refl refl
note-whole (suc (suc (suc zero))) h l = whole_of (note_line 3) refl refl
note-whole (suc (suc (suc (suc zero)))) h l = whole_of (note_line 4) refl refl
note-whole (suc (suc (suc (suc (suc zero))))) h l = whole_of (note_line 5) refl refl
note-whole (suc (suc (suc (suc (suc (suc zero)))))) h l = whole_of (note_line 6) refl refl
note-whole (suc (suc (suc (suc (suc (suc (suc zero))))))) h l = whole_of (note_line 7) refl refl
note-whole (suc (suc (suc (suc (suc (suc (suc (suc zero)))))))) h l = whole_of (note_line 8) refl refl
note-whole (suc (suc (suc (suc (suc (suc (suc (suc (suc k))))))))) h l = absurd (omega arith)
