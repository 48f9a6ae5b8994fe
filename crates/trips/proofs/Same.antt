-- Filed records that are alike break the same rules at the same places. Assumes nothing.
use Prim.Native.Nat.{ℕ, zero, suc, ◌+◌, ◌-◌, ◌<◌}
use mathlib.Core.Path.{◌≡◌, refl, sym, ap, ap₂, ◌∙◌}
use mathlib.Core.Bool.{Bool, true, cond, ◌&&◌}
use mathlib.Core.List.{List, [], ◌∷◌}
use native.Mathlib.Nat.{zero-add}
use native.Mathlib.Decide.{dec_lt}
use native.Mathlib.Omega.{arith}
use borrow.Author.Tests.{eqb-true, ltb-true, lt-ltb, le-ltb}
use lib.Dec.{ltb, leb, eqb}
use lib.ListN.{length}
use Rattle.form.specs.First.{first}
use Rattle.form.specs.Ruling.{rule, refuse, ruling}
use Rattle.form.specs.Records.{Filed, RowTest, RowRule, has_id, id_of, bad_id, broken_by, row_rules, over_places, record_rules, rows_below, filed_rows}
use Rattle.form.specs.Sums.{cleared_above, soil_type, lowest_uneven, soil_uneven, sum_rules, filed_rules}
use Rattle.form.specs.Refusals.{Clean}
use Rattle.std.specs.Prelude.{Option}
use Rattle.form.proofs.Order.{or_rule, ruling_append}
use Rattle.form.proofs.Tests.{guarded}
use Rattle.form.proofs.Search.{first_same}
use Rattle.filing.specs.Lists.{Lists, rows_in, filed_list, behind, filed_from}
use Rattle.filing.proofs.Alike.{Same, Alike, rows_alike}
use Rattle.lists.proofs.Places.{kinds_from}

-- a used place behind one of its kind: that one is used too
pub Solid : Filed → ℕ → Type 0
Solid f n = (j : ℕ) → suc j < n → f.used (suc j) ≡ true → f.kind j ≡ f.kind (suc j) → f.used j ≡ true

module _ {f g : Filed} {n : ℕ} (a : Alike f 0 g 0 n) where
  same_at : (j : ℕ) → j < n → Same f j g j
  same_at j h = rw (zero-add j) at (a.at j h)

  id_same : Solid f n → (j : ℕ) → j < n → bad_id f j ≡ bad_id g j
  unfolding bad_id Solid
  id_same solid zero h = let s = same_at 0 h in rw (← s.used, ← s.kind)
  id_same solid (suc j) h =
      let e : suc j - 1 ≡ j = omega arith in
      let s = same_at (suc j) h in
      let p = same_at j (omega arith) in
      rw (e, ← s.used, ← s.kind, ← p.kind)
      (guarded (f.used (suc j))
      (λ u.
      ap (λ (b : Bool). has_id (f.kind (suc j)) && (ltb 0 (suc j) && b))
      (guarded (eqb (f.kind j) (f.kind (suc j)))
      (λ q. ap₂ (λ x y. leb (id_of x) (id_of y)) (s.row u) (p.row (solid j h u (eqb-true (f.kind j) (f.kind (suc j)) q)))))))

  row_same : (e : ℕ) (t : RowTest) (j : ℕ) → j < n → broken_by f e t j ≡ broken_by g e t j
  unfolding broken_by
  row_same e t j h = let s = same_at j h in rw (← s.used, ← s.kind) (guarded (f.used j) (λ u. ap (t e (f.kind j)) (s.row u)))

module _ (e : ℕ) (f g : Filed) (a : Alike f 0 g 0 f.places) (same : f.places ≡ g.places) where
  at : (p q : ℕ → Bool) → ((j : ℕ) → j < f.places → p j ≡ q j) → first p f.places ≡ first q g.places
  at p q h = first_same p q f.places h ∙ ap (first q) same

  over_same : (qs : List RowRule) → ruling (over_places e f qs) ≡ ruling (over_places e g qs)
  unfolding ruling
  over_same [] = refl
  over_same (q ∷ qs) = ap₂ (refuse q.number) (at (broken_by f e q.breaks) (broken_by g e q.breaks) (row_same a e q.breaks)) (over_same qs)

  records_same : Solid f f.places → ruling (record_rules e f) ≡ ruling (record_rules e g)
  unfolding ruling
  records_same solid = ap₂ (refuse 5) (at (bad_id f) (bad_id g) (id_same a solid)) (over_same row_rules)

  -- rules that add rows up: alike places have the same rows
  pub kind_same : (k : ℕ) → filed_rows f k ≡ filed_rows g k
  kind_same k = rows_alike k f.places (same_at a) ∙ ap (rows_below g k) same

  -- 13 at a place is a test of its row, by the rows of mineral soil
  soil_same : (j : ℕ) → j < f.places → soil_uneven f j ≡ soil_uneven g j
  unfolding soil_uneven broken_by
  soil_same j h =
      row_same a 0 (soil_test (filed_rows f 7)) j h
      ∙ ap (λ (soils : List (List ℕ)). g.used j && soil_test soils 0 (g.kind j) (g.row j)) (kind_same 7)
    where
      soil_test : List (List ℕ) → RowTest
      soil_test soils edition kind r = eqb kind 7 && lowest_uneven soils (soil_type r)

  sums_same : ruling (sum_rules f) ≡ ruling (sum_rules g)
  unfolding ruling
  sums_same =
      ap₂ (λ (b : Bool) (s : Option ℕ). refuse 12 (first (λ p. b) 1) (refuse 13 s Clean))
      (ap₂ cleared_above (kind_same 3) (kind_same 1))
      (at (soil_uneven f) (soil_uneven g) soil_same)

  pub rules_same : Solid f f.places → ruling (filed_rules e f) ≡ ruling (filed_rules e g)
  rules_same solid =
      ruling_append (record_rules e f) (sum_rules f) ∙ ap₂ or_rule (records_same solid) sums_same ∙ sym (ruling_append (record_rules e g) (sum_rules g))

-- ---- the records of lists are solid

solid_behind : (f g : Filed) (k m : ℕ) → ((j : ℕ) → f.kind j ≡ k) → ((i : ℕ) → k < g.kind i) → Solid f f.places → Solid g m → Solid (behind f g) (f.places + m)
unfolding Solid behind
solid_behind f g k m kinds above sf sg j h = go (dec_lt (suc j) f.places) (dec_lt j f.places)
  where
    go : Dec (suc j < f.places) → Dec (j < f.places)
        → cond (ltb (suc j) f.places) (f.used (suc j)) (g.used (suc j - f.places)) ≡ true
        → cond (ltb j f.places) (f.kind j) (g.kind (j - f.places)) ≡ cond (ltb (suc j) f.places) (f.kind (suc j)) (g.kind (suc j - f.places))
        → cond (ltb j f.places) (f.used j) (g.used (j - f.places)) ≡ true
    go (yes a) b =
        rw (lt-ltb (suc j) f.places a, lt-ltb j f.places (omega arith)) (sf j a)
    go (no a) (yes b) =
        rw (le-ltb (suc j) f.places (omega arith), lt-ltb j f.places b) (λ u e. absurd (omega (arith, kinds j, above (suc j - f.places))))
    go (no a) (no b) =
        let s : suc j - f.places ≡ suc (j - f.places) = omega arith in
        rw (le-ltb (suc j) f.places (omega arith), le-ltb j f.places (omega arith), s) (sg (j - f.places) (omega arith))

pub solid_lists : (k : ℕ) (l : Lists) → Solid (filed_from k l) (filed_from k l).places
unfolding filed_from filed_list behind Solid
solid_lists k [] = λ j h. absurd (omega arith)
solid_lists k (r ∷ l) =
    solid_behind (filed_list k r) (filed_from (suc k) l) k (filed_from (suc k) l).places (λ j. refl) (λ i. kinds_from (suc k) l i)
    (λ j h u e. lt-ltb j (rows_in k (length r)) (omega (arith, ltb-true (suc j) (rows_in k (length r)) u))) (solid_lists (suc k) l)
