-- Fields of a line. Assumes nothing.
--     cell-first, cell-next      field 0 stands before the first separator, and field i + 1 is field i of what stands behind it
--     Begins, first-begins, cell_is, next-begins    for a loop that goes from field to field: field i begins at a place, its cell, and the next
--     Going, none_seen, full_seen, empty_seen, all_seen    a loop that counts the fields up to the last that is not empty
--     field_alone, field-before  a field without the separator is the only one, or the first
--     Plain, AllPlain            what may be printed as a field
--     fields-joined, cells-joined, found_joined    such fields with the separator between them come back
use Prim.Native.Nat.{ℕ, zero, suc, ◌+◌, ◌-◌, ◌<◌, ◌≤◌}
use mathlib.Core.Path.{◌≡◌, refl, sym, ap, ◌∙◌}
use mathlib.Core.Bool.{Bool, true, false, cond, ◌&&◌}
use mathlib.Core.List.{List, [], ◌∷◌, ◌++◌}
use native.Mathlib.Omega.{arith}
use native.Mathlib.Numerals.{add-one}
use native.Mathlib.Nat.{zero-add}
use lib.Dec.{eqb}
use lib.ListN.{length, drop, get_or, drop_of_length-le}
use borrow.Author.Tests.{eq-eqb, ne_eqb}
use Rattle.cells.specs.Lines.{part, onto, has}
use Rattle.cells.specs.Cells.{up_to, behind, fields_of, front_off, end_off, quotes_off, cleaned, cell_at, is_empty}
use Rattle.cells.specs.Cells.{up_to_last, found_in, from_field, joined, FieldAt}
use Rattle.cells.specs.declared.Field.{Field}
use Rattle.cells.proofs.Parts.{part_length}
use Rattle.cells.proofs.Tests.{and_off, or_none}

onto-rest : (b : ℕ) (ps : List (List ℕ)) → drop 1 (onto b ps) ≡ drop 1 ps
onto-rest b [] = refl
onto-rest b (p ∷ ps) = refl

onto-first : (b : ℕ) (ps : List (List ℕ)) → get_or (onto b ps) 0 [] ≡ b ∷ get_or ps 0 []
onto-first b [] = refl
onto-first b (p ∷ ps) = refl

rest_at : (i : ℕ) (ps : List (List ℕ)) → get_or (drop 1 ps) i [] ≡ get_or ps (suc i) []
rest_at i [] = refl
rest_at i (p ∷ ps) = refl

module _ (sep : ℕ) where
  first_is : (l : List ℕ) → get_or (fields_of sep l) 0 [] ≡ up_to sep l
  unfolding fields_of up_to
  first_is [] = refl
  first_is (b ∷ bs) = by (eqb b sep) (first_is bs)
    where
      by : (q : Bool) → get_or (fields_of sep bs) 0 [] ≡ up_to sep bs
          → get_or (cond q ([] ∷ fields_of sep bs) (onto b (fields_of sep bs))) 0 [] ≡ cond q [] (b ∷ up_to sep bs)
      by true more = refl
      by false more = onto-first b (fields_of sep bs) ∙ ap (λ (x : List ℕ). b ∷ x) more

  -- the fields behind the first are those of what stands behind the separator, for whatever makes no difference between no field and an empty one
  rest_is : {A : Type 0} (f : List (List ℕ) → A) → f [] ≡ f ([] ∷ []) → (l : List ℕ) → f (drop 1 (fields_of sep l)) ≡ f (fields_of sep (behind sep l))
  unfolding fields_of behind
  rest_is f e [] = e
  rest_is {A} f e (b ∷ bs) = by (eqb b sep) (rest_is f e bs)
    where
      by : (q : Bool) → f (drop 1 (fields_of sep bs)) ≡ f (fields_of sep (behind sep bs))
          → f (drop 1 (cond q ([] ∷ fields_of sep bs) (onto b (fields_of sep bs)))) ≡ f (fields_of sep (cond q bs (behind sep bs)))
      by true more = refl
      by false more = ap f (onto-rest b (fields_of sep bs)) ∙ more

  none_there : (i : ℕ) → ◌≡◌ {A = List ℕ} (get_or [] i []) (get_or ([] ∷ []) i [])
  none_there zero = refl
  none_there (suc i) = refl

  pub cell-first : (l : List ℕ) → cell_at sep 0 l ≡ cleaned sep (up_to sep l)
  cell-first l = ap (cleaned sep) (first_is l)

  pub cell-next : (i : ℕ) (l : List ℕ) → cell_at sep (suc i) l ≡ cell_at sep i (behind sep l)
  cell-next i l = ap (cleaned sep) (sym (rest_at i (fields_of sep l)) ∙ rest_is (λ (fs : List (List ℕ)). get_or fs i []) (none_there i) l)

  -- from field to field: what stands from a place on is what stands from field i on
  pub record Begins (line : List ℕ) (i at : ℕ) : Type 0 where
    pub within : at ≤ length line
    pub here : drop at line ≡ from_field sep i line

  pub first-begins : (line : List ℕ) → Begins line 0 0
  unfolding from_field
  first-begins line = record { within = omega arith; here = refl }

  from_behind : (i : ℕ) (l : List ℕ) → from_field sep i (behind sep l) ≡ from_field sep (suc i) l
  unfolding from_field
  from_behind zero l = refl
  from_behind (suc i) l = ap (behind sep) (from_behind i l)

  cell_from : (i : ℕ) (l : List ℕ) → cell_at sep i l ≡ cleaned sep (up_to sep (from_field sep i l))
  unfolding from_field
  cell_from zero l = cell-first l
  cell_from (suc i) l = cell-next i l ∙ cell_from i (behind sep l) ∙ ap (λ (x : List ℕ). cleaned sep (up_to sep x)) (from_behind i l)

  module _ (line : List ℕ) (i at : ℕ) (c : Begins line i at) (r : Field) (f : FieldAt sep line at r) where
    pub cell_is : part r.from r.to line ≡ cell_at sep i line
    cell_is = f.cell ∙ ap (λ (x : List ℕ). cleaned sep (up_to sep x)) c.here ∙ sym (cell_from i line)

    pub next-begins : Begins line (i + 1) r.next
    unfolding from_field
    next-begins = record { within = f.within; here = rw add-one (f.rest ∙ ap (behind sep) c.here) }

  -- counting: so many fields are seen behind the first, and the last that is not empty is known
  abbrev goes_on : ℕ → ℕ → ℕ → ℕ
  goes_on seen last n = cond (eqb n 0) last (seen + n)

  pub record Going (line : List ℕ) (at seen last : ℕ) : Type 0 where
    pub few : seen ≤ at
    pub inside : at ≤ length line
    pub rest : goes_on seen last (up_to_last sep (fields_of sep (drop at line))) ≡ found_in sep line

  found_rest : (l : List ℕ) → found_in sep l ≡ up_to_last sep (fields_of sep (behind sep l))
  unfolding up_to_last front_off end_off quotes_off
  found_rest l = rest_is (up_to_last sep) refl l

  none_yet : (n : ℕ) → goes_on 0 0 n ≡ n
  none_yet zero = refl
  none_yet (suc n) = rw (ne_eqb (suc n) 0 (λ z. omega (arith, z))) (zero-add (suc n))

  pub none_seen : (line : List ℕ) (at : ℕ) → at ≤ length line → drop at line ≡ behind sep line → Going line at 0 0
  none_seen line at h e = record {
    few = omega arith;
    inside = h;
    rest = none_yet (up_to_last sep (fields_of sep (drop at line))) ∙ ap (λ (x : List ℕ). up_to_last sep (fields_of sep x)) e ∙ sym (found_rest line);
  }

  pub all_seen : (line : List ℕ) (at seen last : ℕ) → length line ≤ at → Going line at seen last → last ≡ found_in sep line
  unfolding fields_of up_to_last front_off end_off quotes_off
  all_seen line at seen last h c = sym (ap (λ (x : List ℕ). goes_on seen last (up_to_last sep (fields_of sep x))) (drop_of_length-le line {i = at} h)) ∙ c.rest

  -- one field more, by its cell and how many are counted behind it
  onto_some : (b : ℕ) (ps : List (List ℕ)) → 0 < length (onto b ps)
  onto_some b [] = omega arith
  onto_some b (p ∷ ps) = omega arith

  some_field : (l : List ℕ) → 0 < length (fields_of sep l)
  unfolding fields_of
  some_field [] = omega arith
  some_field (b ∷ bs) = by (eqb b sep)
    where
      by : (q : Bool) → 0 < length (cond q ([] ∷ fields_of sep bs) (onto b (fields_of sep bs)))
      by true = omega arith
      by false = onto_some b (fields_of sep bs)

  apart : (fs : List (List ℕ)) → 0 < length fs → fs ≡ get_or fs 0 [] ∷ drop 1 fs
  apart [] h = absurd (omega arith)
  apart (f ∷ fs) h = refl

  counted : (l : List ℕ) → up_to_last sep (fields_of sep l) ≡ cond (is_empty (cleaned sep (up_to sep l)) && eqb (found_in sep l) 0) 0 (suc (found_in sep l))
  unfolding up_to_last
  counted l =
      ap (up_to_last sep) (apart (fields_of sep l) (some_field l))
      ∙ ap (λ (x : List ℕ). cond (is_empty (cleaned sep x) && eqb (found_in sep l) 0) 0 (suc (found_in sep l))) (first_is l)

  turn : (empty : Bool) (n seen last : ℕ) → goes_on (seen + 1) (cond empty last (seen + 1)) n ≡ goes_on seen last (cond (empty && eqb n 0) 0 (suc n))
  turn true zero seen last = refl
  turn false zero seen last = refl
  turn empty (suc n) seen last =
      let e = ne_eqb (suc n) 0 (λ z. omega (arith, z)) in
      let f = ne_eqb (suc (suc n)) 0 (λ z. omega (arith, z)) in
      let g : seen + 1 + suc n ≡ seen + suc (suc n) = omega arith in
      rw (e, and_off empty, f) g

  module _ (line : List ℕ) (at seen last : ℕ) (c : Going line at seen last) (h : at < length line) (r : Field) (f : FieldAt sep line at r) where
    long : length (cleaned sep (up_to sep (drop at line))) ≡ r.to - r.from
    long = sym (ap length f.cell) ∙ part_length r.from r.to line f.ordered (omega (arith, f.inside, f.within))

    one_seen : (empty : Bool) → is_empty (cleaned sep (up_to sep (drop at line))) ≡ empty → Going line r.next (seen + 1) (cond empty last (seen + 1))
    one_seen empty e =
        let l₀ = drop at line in
        let n = ap (λ (x : List ℕ). up_to_last sep (fields_of sep x)) f.rest ∙ sym (found_rest l₀) in
        record {
          few = omega (arith, c.few, f.onward h);
          inside = f.within;
          rest =
              ap (goes_on (seen + 1) (cond empty last (seen + 1))) n
              ∙ turn empty (found_in sep l₀) seen last
              ∙ sym (ap (goes_on seen last) (counted l₀ ∙ ap (λ (t : Bool). cond (t && eqb (found_in sep l₀) 0) 0 (suc (found_in sep l₀))) e))
              ∙ c.rest;
        }

    pub full_seen : r.from < r.to → Going line r.next (seen + 1) (seen + 1)
    full_seen l = one_seen false (ne_eqb (length (cleaned sep (up_to sep (drop at line)))) 0 (λ z. omega (arith, z, long)))

    pub empty_seen : r.to ≤ r.from → Going line r.next (seen + 1) last
    empty_seen l = one_seen true (eq-eqb (length (cleaned sep (up_to sep (drop at line)))) 0 (omega (arith, long)))

  -- fields with the separator between them
  pub field_alone : (f : List ℕ) → has sep f ≡ false → fields_of sep f ≡ f ∷ []
  unfolding fields_of has
  field_alone [] h = refl
  field_alone (b ∷ f) h = let g = or_none (eqb b sep) (has sep f) h in rw g.0 (ap (onto b) (field_alone f g.1))

  pub field-before : (f rest : List ℕ) → has sep f ≡ false → fields_of sep (f ++ sep ∷ rest) ≡ f ∷ fields_of sep rest
  unfolding fields_of has
  field-before [] rest h = rw (eq-eqb sep sep refl)
  field-before (b ∷ f) rest h = let g = or_none (eqb b sep) (has sep f) h in rw g.0 (ap (onto b) (field-before f rest g.1))

  -- what may be printed as a field: it has no separator, cleaning leaves it as it is, and there is something
  pub record Plain (f : List ℕ) : Type 0 where
    pub whole : has sep f ≡ false
    pub clean : cleaned sep f ≡ f
    pub some : 0 < length f

  abbrev pub AllPlain : List (List ℕ) → Type 0
  AllPlain [] = Unit {0}
  AllPlain (f ∷ fs) = Plain f × AllPlain fs

  pub fields-joined : (f : List ℕ) (fs : List (List ℕ)) → Plain f → AllPlain fs → fields_of sep (joined sep (f ∷ fs)) ≡ f ∷ fs
  unfolding joined
  fields-joined f [] p ps = field_alone f p.whole
  fields-joined f (g ∷ fs) p ps = field-before f (joined sep (g ∷ fs)) p.whole ∙ ap (λ (x : List (List ℕ)). f ∷ x) (fields-joined g fs ps.0 ps.1)

  clean_all : (fs : List (List ℕ)) (i : ℕ) → AllPlain fs → cleaned sep (get_or fs i []) ≡ get_or fs i []
  unfolding front_off end_off quotes_off
  clean_all [] i ps = refl
  clean_all (f ∷ fs) zero ps = ps.0.clean
  clean_all (f ∷ fs) (suc i) ps = clean_all fs i ps.1

  pub cells-joined : (f : List ℕ) (fs : List (List ℕ)) (i : ℕ) → Plain f → AllPlain fs → cell_at sep i (joined sep (f ∷ fs)) ≡ get_or (f ∷ fs) i []
  cells-joined f fs i p ps = ap (λ (x : List (List ℕ)). cleaned sep (get_or x i [])) (fields-joined f fs p ps) ∙ clean_all (f ∷ fs) i (p, ps)

  all_counted : (fs : List (List ℕ)) → AllPlain fs → up_to_last sep fs ≡ length fs
  unfolding up_to_last
  all_counted [] ps = refl
  all_counted (f ∷ fs) ps =
      let e : is_empty (cleaned sep f) ≡ false = ap is_empty ps.0.clean ∙ ne_eqb (length f) 0 (λ z. omega (arith, z, ps.0.some)) in
      ap (λ (t : Bool). cond (t && eqb (up_to_last sep fs) 0) 0 (suc (up_to_last sep fs))) e ∙ ap suc (all_counted fs ps.1)

  pub found_joined : (f : List ℕ) (fs : List (List ℕ)) → Plain f → AllPlain fs → found_in sep (joined sep (f ∷ fs)) ≡ length fs
  found_joined f fs p ps = ap (λ (x : List (List ℕ)). up_to_last sep (drop 1 x)) (fields-joined f fs p ps) ∙ all_counted fs ps
