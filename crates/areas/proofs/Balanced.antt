-- Rule 13 as the paper has it, of any records. Assumes nothing.
--     even_told        where a soil type is not uneven, its two sums are the same; told_even, the other way
--     place_told       where 13 is broken, at no lower place: it is the first row of the lowest type whose sums differ; told_place, the other way
--     kept-even        where no place breaks 13, the sums of every type are the same; even-kept, the other way
use Prim.Native.Nat.{ℕ, zero, suc, ◌<◌}
use mathlib.Core.Path.{◌≡◌, refl, sym, ap, ◌∙◌}
use mathlib.Core.Bool.{Bool, true, false, ◌&&◌, and-false, true≢false}
use mathlib.Core.List.{List, [], ◌∷◌}
use native.Mathlib.Decide.{dec_lt, ℕ_discrete}
use native.Mathlib.Omega.{arith}
use borrow.Author.Tests.{lt-ltb, ltb-true, eq-eqb, ne_eqb, eqb-true, not-true}
use lib.Dec.{ltb, eqb}
use lib.ListN.{length}
use Rattle.form.specs.First.{first, any}
use Rattle.form.specs.Ruling.{rule}
use Rattle.form.specs.Records.{Filed, filed_rows}
use Rattle.form.specs.Sums.{sum_of, soil_type, area_now, area_then, area_in, sum_now, sum_then, uneven, type_of, uneven_below, lowest_uneven, soil_uneven}
use Rattle.std.specs.Prelude.{Some}
use Rattle.form.proofs.Tests.{and-true, same_of}
use Rattle.form.proofs.Search.{first_is, any_none, any_each, any_found}
use Rattle.form.proofs.Order.{BrokenAt}
use Rattle.filing.proofs.Choice.{unless}
use Rattle.areas.specs.Place.{FirstOfLowest}
use Rattle.areas.proofs.Among.{row-among, row_from}

module _ (soils : List (List ℕ)) where
  pub even_told : (t : ℕ) → uneven soils t ≡ false → sum_now soils t ≡ sum_then soils t
  unfolding uneven
  even_told t e = same_of (sum_now soils t) (sum_then soils t) e

  pub told_even : (t : ℕ) → sum_now soils t ≡ sum_then soils t → uneven soils t ≡ false
  unfolding uneven
  told_even t e = rw (eq-eqb (sum_now soils t) (sum_then soils t) e) refl

  pub uneven_told : (t : ℕ) → uneven soils t ≡ true → sum_now soils t ≡ sum_then soils t → ⊥
  uneven_told t u e = true≢false (sym u ∙ told_even t e)

  pub told_uneven : (t : ℕ) → (sum_now soils t ≡ sum_then soils t → ⊥) → uneven soils t ≡ true
  unfolding uneven
  told_uneven t h = rw (ne_eqb (sum_now soils t) (sum_then soils t) h) refl

-- a type that no row has adds up to nothing
none_added : (t : ℕ) (area : List ℕ → ℕ) (soils : List (List ℕ)) → ((i : ℕ) → i < length soils → type_of soils i ≡ t → ⊥) → sum_of (area_in t area) soils ≡ 0
unfolding sum_of area_in
none_added t area [] h = refl
none_added t area (r ∷ rs) h = rw (ne_eqb (soil_type r) t (h 0 (omega arith)), none_added t area rs (λ i l. h (suc i) (omega arith))) refl

-- no lower type is uneven, by its rows or because it has none
module _ (soils : List (List ℕ)) (t : ℕ) where
  below-even : uneven_below soils t ≡ false → (u : ℕ) → u < t → uneven soils u ≡ false
  unfolding uneven_below
  below-even b u l = go (uneven soils u) refl
    where
      go : (x : Bool) → uneven soils u ≡ x → uneven soils u ≡ false
      go false e = e
      go true e =
          let none : (i : ℕ) → i < length soils → type_of soils i ≡ u → ⊥ =
          λ i k q.
          let f = any_each (λ i. ltb (type_of soils i) t && uneven soils (type_of soils i)) (length soils) b i k in
          true≢false (sym (rw (q, lt-ltb u t l, e) refl) ∙ f) in
          told_even soils u (none_added u area_now soils none ∙ sym (none_added u area_then soils none))

  even-below : ((u : ℕ) → u < t → uneven soils u ≡ false) → uneven_below soils t ≡ false
  unfolding uneven_below
  even-below h =
      any_none (λ i. ltb (type_of soils i) t && uneven soils (type_of soils i)) (length soils)
      (λ i l. unless (ltb (type_of soils i) t) (λ e. h (type_of soils i) (ltb-true (type_of soils i) t e)))

module _ (f : Filed) where
  abbrev soils : List (List ℕ)
  soils = filed_rows f 7

  -- what 13 says of a place
  at : (p : ℕ) → soil_uneven f p ≡ true → (f.used p ≡ true) × (f.kind p ≡ 7) × (uneven soils (soil_type (f.row p)) ≡ true) × (uneven_below soils (soil_type (f.row p)) ≡ false)
  unfolding soil_uneven lowest_uneven
  at p e =
      let a = and-true (f.used p) _ e in
      let b = and-true (eqb (f.kind p) 7) _ a.1 in
      let c = and-true (uneven soils (soil_type (f.row p))) _ b.1 in
      (a.0, eqb-true (f.kind p) 7 b.0, c.0, not-true (uneven_below soils (soil_type (f.row p))) c.1)

  is : (p : ℕ) → f.used p ≡ true → f.kind p ≡ 7 → uneven soils (soil_type (f.row p)) ≡ true → uneven_below soils (soil_type (f.row p)) ≡ false → soil_uneven f p ≡ true
  unfolding soil_uneven lowest_uneven
  is p u k d b = rw (u, eq-eqb (f.kind p) 7 k, d, b) refl

  pub place_told : {p : ℕ} → BrokenAt (rule 13 f.places (soil_uneven f)) p → FirstOfLowest f p (soil_type (f.row p))
  place_told {p} w =
      let a = at p w.broken in
      record {
        inside = w.inside;
        used_there = a.0;
        kind_there = a.1;
        type_there = refl;
        differ = uneven_told soils (soil_type (f.row p)) a.2;
        lowest = λ t l. even_told soils t (below-even soils (soil_type (f.row p)) a.3 t l);
        first = λ j l u k q. true≢false (sym (is j u k (rw q a.2) (rw q a.3)) ∙ w.lowest j l);
      }

  module _ {p t : ℕ} (w : FirstOfLowest f p t) where
    odd : uneven soils t ≡ true
    odd = told_uneven soils t w.differ

    lower-even : (u : ℕ) → u < t → uneven soils u ≡ false
    lower-even u l = told_even soils u (w.lowest u l)

    -- a place before it has another type: a lower one is even, and of a higher one this is a lower
    earlier : (j : ℕ) → j < p → soil_uneven f j ≡ false
    unfolding uneven_below
    earlier j l = go (soil_uneven f j) refl
      where
        go : (x : Bool) → soil_uneven f j ≡ x → soil_uneven f j ≡ false
        go false e = e
        go true e =
            let a = at j e in
            let u = soil_type (f.row j) in
            let m = row-among f 7 f.places p w.inside w.used_there w.kind_there in
            by a (dec_lt u t) (ℕ_discrete u t) (λ g.
            let q : type_of soils m.0 ≡ t = ap soil_type m.1.row ∙ w.type_there in
            any_found (λ i. ltb (type_of soils i) u && uneven soils (type_of soils i)) m.0 (length soils) (rw (q, lt-ltb t u g, odd) refl) m.1.index)
          where
            by : (f.used j ≡ true) × (f.kind j ≡ 7) × (uneven soils (soil_type (f.row j)) ≡ true) × (uneven_below soils (soil_type (f.row j)) ≡ false)
                → Dec (soil_type (f.row j) < t) → Dec (soil_type (f.row j) ≡ t)
                → (t < soil_type (f.row j) → any (λ i. ltb (type_of soils i) (soil_type (f.row j)) && uneven soils (type_of soils i)) (length soils) ≡ true) → soil_uneven f j ≡ false
            by a (yes g) d h = absurd (true≢false (sym a.2 ∙ lower-even (soil_type (f.row j)) g))
            by a (no g) (yes q) h = absurd (w.first j l a.0 a.1 q)
            by a (no g) (no q) h = absurd (true≢false (sym (h (omega arith)) ∙ a.3))

    pub told_place : first (soil_uneven f) f.places ≡ Some p
    told_place =
        first_is (soil_uneven f) f.places p w.inside
        (is p w.used_there w.kind_there (rw w.type_there odd) (rw w.type_there (even-below soils t lower-even))) earlier

  -- no place breaks it
  module _ (kept : (j : ℕ) → j < f.places → soil_uneven f j ≡ false) where
    -- the lowest uneven type would have a row
    none_lowest : (u : ℕ) → ((v : ℕ) → v < u → uneven soils v ≡ false) → uneven soils u ≡ false
    none_lowest u low = go (uneven soils u) refl
      where
        go : (x : Bool) → uneven soils u ≡ x → uneven soils u ≡ false
        go false e = e
        go true e =
            let none : (i : ℕ) → i < length soils → type_of soils i ≡ u → ⊥ =
            λ i k q.
            let m = row_from f 7 f.places i k in
            let t : soil_type (f.row m.0) ≡ u = ap soil_type (sym m.1.row) ∙ q in
            true≢false (sym (is m.0 m.1.used m.1.kind (rw t e) (rw t (even-below soils u low))) ∙ kept m.0 m.1.below) in
            told_even soils u (none_added u area_now soils none ∙ sym (none_added u area_then soils none))

    all_below : (n u : ℕ) → u < n → uneven soils u ≡ false
    all_below zero u l = absurd (omega arith)
    all_below (suc n) u l = none_lowest u (λ v k. all_below n v (omega arith))

    pub kept-even : (t : ℕ) → sum_now soils t ≡ sum_then soils t
    kept-even t = even_told soils t (all_below (suc t) t (omega arith))

  pub even-kept : ((t : ℕ) → sum_now soils t ≡ sum_then soils t) → (j : ℕ) → soil_uneven f j ≡ false
  unfolding soil_uneven lowest_uneven
  even-kept h j = rw (told_even soils (soil_type (f.row j)) (h (soil_type (f.row j))), and-false (eqb (f.kind j) 7)) (and-false (f.used j))
