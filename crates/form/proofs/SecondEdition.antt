-- "Editions 1 and 2 that use it are read .. as ever": what is not edition 3 is ruled as before there was one. Assumes nothing.
--     same_kinds, same_test    edition 3 has edition 2's kinds, and every test of one row but 14
--     records-kept      where 14 is kept, the rules of records are 01's; filed-kept, with those that add rows up
--     spared            14 is kept in every edition but 3 (none_retired); none_stands, and where there are no scattered trees
--     kept_none, first-scattered    what 14 says of places that keep it, and of the first that does not
--     second_as_before  bytes that do not say edition 3 are ruled as before; third_as_second, those that do, without scattered trees, with 3 in 2's place
use Prim.Native.Nat.{ℕ, ◌*◌, ◌<◌}
use mathlib.Core.Path.{◌≡◌, refl, sym, ap, ◌∙◌}
use mathlib.Core.Bool.{Bool, true, false, ◌&&◌, and-false, or-true, or-false}
use mathlib.Core.List.{List}
use native.Mathlib.Decide.{ℕ_discrete, dec_lt}
use native.Mathlib.Omega.{arith}
use borrow.Author.Tests.{lt-ltb, le-ltb, eq-eqb, ne_eqb, eqb-true}
use lib.Dec.{eqb}
use Rattle.form.specs.Ruling.{rule, ruling}
use Rattle.form.specs.Layout.{kinds}
use Rattle.form.specs.Edition.{last_kind}
use Rattle.form.specs.Block.{blocks, kind_of, edition, bad_length, bad_check, bad_header, bad_block}
use Rattle.form.specs.Records.{Filed, filed, unit_code, is_scattered, RowTest, scattered_trees, bad_id, broken_by, record_rules, test_numbered}
use Rattle.form.specs.Sums.{sum_rules, filed_rules}
use Rattle.form.specs.Verdict.{block_rules, rules}
use Rattle.form.specs.FirstEdition.{records01}
use Rattle.form.specs.SecondEdition.{bad_header_before, filed_before, rules_before, NoneScattered, FirstScattered}
use Rattle.form.proofs.Tests.{and-true, and_rest, either}
use Rattle.form.proofs.Search.{first_same, first_is_none}
use Rattle.form.proofs.EachKind.{no_edition}
use Rattle.form.proofs.Order.{BrokenAt, kept, both-rule, append_same}

-- ---- "Edition 3 is otherwise edition 2"

pub same_kinds : last_kind 3 ≡ last_kind 2
unfolding last_kind
same_kinds = refl

pub same_test : (n k : ℕ) (r : List ℕ) → (n ≡ 14 → ⊥) → test_numbered n 3 k r ≡ test_numbered n 2 k r
same_test n k r h =
    let Same : RowTest → Type 0 = λ t. t 3 k r ≡ t 2 k r in
    rw (ne_eqb n 14 h) (either Same (eqb n 6) (λ a. refl) (λ a. either Same (eqb n 7) (λ b. refl) (λ b. refl)))

-- ---- where 14 is kept

module _ (e : ℕ) (f : Filed) (h : (j : ℕ) → j < f.places → broken_by f e scattered_trees j ≡ false) where
  pub records-kept : ruling (record_rules e f) ≡ ruling (records01 f)
  unfolding broken_by
  records-kept =
      both-rule 5 f.places (bad_id f) (bad_id f) _ _ refl (λ a.
      both-rule 6 f.places _ _ _ _ refl (λ b. sym (kept (rule 14 f.places (broken_by f e scattered_trees)) _ (first_is_none _ f.places h) refl)))

  pub filed-kept : ruling (filed_rules e f) ≡ ruling (filed_before f)
  filed-kept = append_same (record_rules e f) (records01 f) (sum_rules f) records-kept

-- 14 is about edition 3 alone
pub none_retired : (e k : ℕ) (r : List ℕ) → (e ≡ 3 → ⊥) → scattered_trees e k r ≡ false
none_retired e k r h = rw (ne_eqb e 3 h) refl

pub spared : (e : ℕ) (f : Filed) → (e ≡ 3 → ⊥) → (j : ℕ) → j < f.places → broken_by f e scattered_trees j ≡ false
unfolding broken_by
spared e f h j l = ap (λ (x : Bool). f.used j && x) (none_retired e (f.kind j) (f.row j) h) ∙ and-false (f.used j)

-- and there about stock rows of scattered trees
pub none_stands : (e : ℕ) (f : Filed) → NoneScattered f → (j : ℕ) → j < f.places → broken_by f e scattered_trees j ≡ false
unfolding broken_by
none_stands e f h j l = go (f.used j) refl (eqb (f.kind j) 2) refl
  where
    go : (u : Bool) → f.used j ≡ u → (k : Bool) → eqb (f.kind j) 2 ≡ k → (u && (eqb e 3 && (k && is_scattered (f.row j)))) ≡ false
    go false p k q = refl
    go true p false q = and-false (eqb e 3)
    go true p true q = rw (h j l p (eqb-true (f.kind j) 2 q)) (and-false (eqb e 3))

-- what 14 says of places that keep it, and of the first that does not
stock-kept : (f : Filed) (j : ℕ) → broken_by f 3 scattered_trees j ≡ false → f.used j ≡ true → f.kind j ≡ 2 → is_scattered (f.row j) ≡ false
unfolding broken_by
stock-kept f j h u k = and_rest (eqb (f.kind j) 2) (is_scattered (f.row j)) (eq-eqb (f.kind j) 2 k) (and_rest (f.used j) _ u h)

pub kept_none : (f : Filed) → ((j : ℕ) → j < f.places → broken_by f 3 scattered_trees j ≡ false) → NoneScattered f
kept_none f h j l = stock-kept f j (h j l)

pub first-scattered : (e : ℕ) (f : Filed) (p : ℕ) → BrokenAt (rule 14 f.places (broken_by f e scattered_trees)) p → FirstScattered e f p
unfolding broken_by
first-scattered e f p w =
    let a = and-true (f.used p) _ w.broken in
    let b = and-true (eqb e 3) _ a.1 in
    let c = and-true (eqb (f.kind p) 2) (is_scattered (f.row p)) b.1 in
    let three = eqb-true e 3 b.0 in
    record {
      edition_3 = three;
      inside = w.inside;
      used_there = a.0;
      stock-row = eqb-true (f.kind p) 2 c.0;
      code_1 = eqb-true (unit_code (f.row p)) 1 c.1;
      none_before = λ j l. stock-kept f j (rw three at (w.lowest j l));
    }

-- ---- the rules of bytes

module _ (s : List ℕ) (second : ℕ) (top : last_kind second ≡ kinds) (other : (edition s 0 ≡ 1 → ⊥) → (edition s 0 ≡ second → ⊥) → last_kind (edition s 0) ≡ 0) where
  header_before : (b : ℕ) → bad_header s b ≡ bad_header_before second s b
  unfolding bad_header last_kind kinds
  header_before b = go (ℕ_discrete (edition s b) (edition s 0)) (ℕ_discrete (edition s b) 1) (ℕ_discrete (edition s b) second) (dec_lt 4 (kind_of s b))
    where
      go : Dec (edition s b ≡ edition s 0) → Dec (edition s b ≡ 1) → Dec (edition s b ≡ second) → Dec (4 < kind_of s b) → bad_header s b ≡ bad_header_before second s b
      go (no d) x y z = simp (ne_eqb (edition s b) (edition s 0) d, or-true)
      go (yes e) (yes one) y (yes z) = simp (one, lt-ltb 4 (kind_of s b) z, or-true)
      go (yes e) (yes one) y (no z) = simp (one, le-ltb 4 (kind_of s b) (omega arith), le-ltb kinds (kind_of s b) (omega arith), or-false)
      go (yes e) (no n) (yes two) z =
          simp (two, top, ne_eqb second 1 (λ q. n (two ∙ q)), eq-eqb second second refl, or-false)
      go (yes e) (no n) (no m) z =
          simp (ap last_kind e ∙ other (λ q. n (e ∙ q)) (λ q. m (e ∙ q)), ne_eqb (edition s b) 1 n, ne_eqb (edition s b) second m, or-true)

  by_headers : ((j : ℕ) → j < 12 * blocks s → broken_by (filed s) (edition s 0) scattered_trees j ≡ false) → ruling (rules s) ≡ ruling (rules_before second s)
  unfolding block_rules
  by_headers h =
      both-rule 1 1 (λ p. bad_length s) (λ p. bad_length s) _ _ refl (λ a.
      both-rule 2 (blocks s) (bad_check s) (bad_check s) _ _ refl (λ b.
      both-rule 3 (blocks s) (bad_header s) (bad_header_before second s) _ _ (first_same _ _ (blocks s) (λ b l. header_before b)) (λ c.
      both-rule 4 (blocks s) (bad_block s) (bad_block s) _ _ refl (λ d. filed-kept (edition s 0) (filed s) h))))

top_kind : (last_kind 2 ≡ kinds) × (last_kind 3 ≡ kinds)
unfolding last_kind kinds
top_kind = (refl, refl)

pub second_as_before : (s : List ℕ) → (edition s 0 ≡ 3 → ⊥) → ruling (rules s) ≡ ruling (rules_before 2 s)
second_as_before s h = by_headers s 2 top_kind.0 (λ n m. no_edition (edition s 0) n m h) (spared (edition s 0) (filed s) h)

pub third_as_second : (s : List ℕ) → edition s 0 ≡ 3 → NoneScattered (filed s) → ruling (rules s) ≡ ruling (rules_before 3 s)
third_as_second s three h = by_headers s 3 top_kind.1 (λ n m. absurd (m three)) (none_stands (edition s 0) (filed s) h)
