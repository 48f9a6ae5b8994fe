-- Where the soil rows stand, and rule 13 there. Assumes nothing.
--     line-ruling    the rule over all places, by the rows that stand one after the other
--     unwritten_line    so do the rows of a list among those of all kinds; part_few, the first lengths are few too
use Prim.Native.Nat.{ℕ, zero, suc, ◌+◌, ◌-◌, ◌*◌, ◌≤◌, ◌<◌}
use mathlib.Core.Path.{◌≡◌, refl, sym, ap, subst, ◌∙◌}
use mathlib.Core.Bool.{Bool, true, false, cond, ◌&&◌}
use mathlib.Core.List.{List, [], ◌∷◌}
use native.Mathlib.Nat.{add-zero, zero-div}
use native.Mathlib.Decide.{dec_lt}
use native.Mathlib.Omega.{arith}
use borrow.Author.Tests.{lt-ltb, le-ltb, eq-eqb, eqb-true}
use lib.Dec.{ltb, eqb, lit≤}
use lib.ListN.{length, get_or, take, drop, length-take, length-drop, get_or-eq_default}
use lib.Seq.{length-take-le, get_or-take}
use Rattle.form.specs.First.{first}
use Rattle.form.specs.Layout.{numbers_of}
use Rattle.form.specs.Ruling.{refuse, ruling}
use Rattle.form.specs.Records.{Filed, filed_rows}
use Rattle.form.specs.Sums.{soil_type, type_of, lowest_uneven, soil_uneven}
use Rattle.form.specs.Refusals.{Clean}
use Rattle.std.specs.Prelude.{None, Option, Some}
use Rattle.form.proofs.Search.{first_at, first_none, first_is, first_is_none}
use Rattle.standing.proofs.StandRows.{from_length, from_at}
use Rattle.standing.proofs.Lines.{Line, line-rows}
use Rattle.filing.specs.Lists.{cut, total, rows_in, blocks_of, filed_list, behind, filed_from}
use Rattle.filing.proofs.Choice.{unless}
use Rattle.decoding.proofs.Decoded.{list-line}
use Rattle.lists.specs.Rules.{FewRows, blocks_from, shifted}
use Rattle.lists.proofs.Places.{kinds_from}
use Rattle.areas.specs.Areas.{soil_rules, ruled_from}

-- ---- a test of the rows of a kind, at their places

module _ {f : Filed} {k p n : ℕ} (l : Line f k p n) (t : List ℕ → Bool) where
  abbrev test : ℕ → Bool
  test j = f.used j && (eqb (f.kind j) k && t (f.row j))

  -- at a row of the kind
  there : (i : ℕ) → i < n → test (p + i) ≡ t (f.row (p + i))
  there i h = rw (l.used i h, l.kind i h, eq-eqb k k refl) refl

  -- no place before row m is one of another row that passes
  spared : (m : ℕ) → ((i : ℕ) → i < m → t (f.row (p + i)) ≡ false) → (j : ℕ) → j < f.places → j < p + m → test j ≡ false
  spared m h j g b =
      unless (f.used j)
      (λ u.
      unless (eqb (f.kind j) k)
      (λ e.
      let o = l.only j g u (eqb-true (f.kind j) k e) in
      let q : p + (j - p) ≡ j = omega arith in
      subst (λ (x : ℕ). t (f.row x) ≡ false) q (h (j - p) (omega arith))))

  module _ (q : ℕ → Bool) (same : (i : ℕ) → i < n → q i ≡ t (f.row (p + i))) where
    pub first-line : first test f.places ≡ shifted p (first q n)
    first-line = go (first q n) refl
      where
        go : (s : Option ℕ) → first q n ≡ s → first test f.places ≡ shifted p s
        go (Some i) e =
            let a = first_at q e in
            first_is test f.places (p + i) (l.inside i a.0) (there i a.0 ∙ sym (same i a.0) ∙ a.1)
            (λ j b. spared i (λ m x. sym (same m (omega arith)) ∙ a.2 m x) j (omega (arith, l.inside i a.0)) b)
        go None e =
            first_is_none test f.places
            (λ j g. all j g (dec_lt j (p + n)) (λ m x. sym (same m x) ∙ first_none q e m x))
          where
            all : (j : ℕ) → j < f.places → Dec (j < p + n) → ((i : ℕ) → i < n → t (f.row (p + i)) ≡ false) → test j ≡ false
            all j g (yes b) h = spared n h j g b
            all j g (no b) h =
                unless (f.used j) (λ u. unless (eqb (f.kind j) k) (λ e. absurd (b (l.only j g u (eqb-true (f.kind j) k e)).1)))

-- 13 over all places
module _ {f : Filed} {p n : ℕ} (l : Line f 7 p n) where
  soils-long : length (filed_rows f 7) ≡ n
  soils-long = ap length (line-rows l) ∙ from_length f p n

  type_at : (i : ℕ) → i < n → type_of (filed_rows f 7) i ≡ soil_type (f.row (p + i))
  type_at i h = ap soil_type (ap (λ (x : List (List ℕ)). get_or x i []) (line-rows l) ∙ from_at f p n i h)

  pub line-ruling : ruling (soil_rules f) ≡ ruled_from p (filed_rows f 7)
  unfolding ruling soil_uneven
  line-ruling =
      let soils = filed_rows f 7 in
      ap (λ (s : Option ℕ). refuse 13 s Clean)
      (first-line l (λ r. lowest_uneven soils (soil_type r)) (λ i. lowest_uneven soils (type_of soils i)) (λ i h. ap (lowest_uneven soils) (type_at i h))
      ∙ ap (λ (m : ℕ). shifted p (first (λ i. lowest_uneven soils (type_of soils i)) m)) (sym soils-long))

-- ---- the rows of a list among those of all kinds

module _ (f g : Filed) {k p n : ℕ} where
  front-line : ((j : ℕ) → g.kind j ≡ k → ⊥) → Line f k p n → Line (behind f g) k p n
  unfolding behind
  front-line never l = record {
    inside = λ i h. omega (arith, l.inside i h);
    used = λ i h. rw (lt-ltb (p + i) f.places (l.inside i h)) (l.used i h);
    kind = λ i h. rw (lt-ltb (p + i) f.places (l.inside i h)) (l.kind i h);
    only = λ j h u e. go j u e (dec_lt j f.places);
  }
    where
      go : (j : ℕ) → cond (ltb j f.places) (f.used j) (g.used (j - f.places)) ≡ true → cond (ltb j f.places) (f.kind j) (g.kind (j - f.places)) ≡ k
          → Dec (j < f.places) → (p ≤ j) × (j < p + n)
      go j u e (yes b) = l.only j b (rw (lt-ltb j f.places b) at u) (rw (lt-ltb j f.places b) at e)
      go j u e (no b) = absurd (never (j - f.places) (rw (le-ltb j f.places (omega arith)) at e))

  back_line : ((j : ℕ) → f.kind j ≡ k → ⊥) → Line g k p n → Line (behind f g) k (f.places + p) n
  unfolding behind
  back_line never l = record {
    inside = λ i h. omega (arith, l.inside i h);
    used = λ i h. rw ((past i).0, (past i).1) (l.used i h);
    kind = λ i h. rw ((past i).0, (past i).1) (l.kind i h);
    only = λ j h u e. go j h u e (dec_lt j f.places);
  }
    where
      past : (i : ℕ) → (ltb (f.places + p + i) f.places ≡ false) × (f.places + p + i - f.places ≡ p + i)
      past i = (le-ltb (f.places + p + i) f.places (omega arith), omega arith)

      go : (j : ℕ) → j < f.places + g.places → cond (ltb j f.places) (f.used j) (g.used (j - f.places)) ≡ true
          → cond (ltb j f.places) (f.kind j) (g.kind (j - f.places)) ≡ k → Dec (j < f.places) → (f.places + p ≤ j) × (j < f.places + p + n)
      go j h u e (yes b) = absurd (never j (rw (lt-ltb j f.places b) at e))
      go j h u e (no b) =
          let o = l.only (j - f.places) (omega arith) (rw (le-ltb j f.places (omega arith)) at u) (rw (le-ltb j f.places (omega arith)) at e) in
          (omega arith, omega arith)

places : (k : ℕ) (r : List ℕ) → (filed_list k r).places ≡ 12 * blocks_of k (length r)
unfolding filed_list
places k r = refl

-- of the lists from kind j on, the one of kind j + i
pub unwritten_line : (j : ℕ) (ns area : List ℕ) (i : ℕ) → i < length ns → total ns ≤ length area
    → Line (filed_from j (cut ns area)) (j + i) (12 * blocks_from j (take i ns)) (rows_in (j + i) (get_or ns i 0))
unfolding filed_from filed_list cut total blocks_from
unwritten_line j [] area i h t = absurd (omega arith)
unwritten_line j (m ∷ ns) area zero h t =
    let long : length (take m area) ≡ m = length-take-le m area (omega arith) in
    rw (add-zero j)
    (front-line (filed_list j (take m area)) (filed_from (suc j) (cut ns (drop m area))) (λ i e. omega (arith, kinds_from (suc j) (cut ns (drop m area)) i))
    (subst (λ (x : ℕ). Line (filed_list j (take m area)) j 0 (rows_in j x)) long (list-line j (take m area))))
unwritten_line j (m ∷ ns) area (suc i) h t =
    let long : length (take m area) ≡ m = length-take-le m area (omega arith) in
    let f = filed_list j (take m area) in
    let g = filed_from (suc j) (cut ns (drop m area)) in
    let e : j + suc i ≡ suc j + i = omega arith in
    let q : f.places + 12 * blocks_from (suc j) (take i ns) ≡ 12 * (blocks_of j m + blocks_from (suc j) (take i ns)) = rw (places j (take m area), long) (omega arith) in
    rw (e, ← q)
    (back_line f g (λ x d. other d) (unwritten_line (suc j) ns (drop m area) i (omega arith) (omega (arith, length-drop m area))))
  where
    other : j ≡ suc j + i → ⊥
    other d = omega arith

-- the first lengths are few too
pub part_few : (k : ℕ) (lengths : List ℕ) → FewRows lengths → FewRows (take k lengths)
part_few k lengths h i l = go (dec_lt i k)
  where
    go : Dec (i < k) → rows_in (suc i) (get_or (take k lengths) i 0) ≤ 32
    go (yes b) = rw (get_or-take k lengths i 0 b) (h i l)
    go (no b) = rw (get_or-eq_default (take k lengths) 0 {n = i} (omega (arith, length-take k lengths)), zero-div (numbers_of (suc i))) (lit≤ tt)
