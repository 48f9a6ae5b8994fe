-- The numbers that a record's reason takes, where they stand. Assumes nothing.
--     id_used, id_parts, id_order    what rule 5 says of a place that breaks it; id_broken, what breaks it
--     row-stands        what is so of the row that is named; row_there, the row by its numbers
--     id_there          the id of the record at a place
--     fractions_there   the three fractions of a conversion row; limit_there, the first field above its limit; soil_there, the type and the sums of a soil row;
--     trees_there       the unit code of a stock row
use Prim.Native.Nat.{ℕ, ◌+◌, ◌-◌, ◌*◌, ◌/◌, ◌%◌, ◌<◌, ◌≤◌}
use mathlib.Core.Path.{◌≡◌, refl, sym, ap, ◌∙◌}
use mathlib.Core.Bool.{true, not, ◌&&◌}
use mathlib.Core.List.{List}
use native.Mathlib.Omega.{arith}
use borrow.Author.Tests.{lt-ltb, le-leb, eq-eqb, ne_eqb, ltb-true, leb-true, eqb-true}
use lib.Dec.{ltb, leb, eqb}
use Rattle.form.specs.Bytes.{number}
use Rattle.form.specs.Layout.{kinds, parameters_kind, layout, row_from, row_at}
use Rattle.form.specs.Block.{blocks, edition, record_at}
use Rattle.form.specs.Records.{Filed, filed, has_id, id_of, bad_id}
use Rattle.form.proofs.Tests.{on, and-true}
use Rattle.form.proofs.Tables.{id_number}
use Rattle.reasons.specs.declared.Row.{Row}
use Rattle.form.specs.Sums.{soil_type, sum_now, sum_then}
use Rattle.form.specs.Verdict.{rows}
use Rattle.areas.specs.Areas.{areas_of}
use Rattle.areas.specs.declared.Areas.{Areas}
use Rattle.reasons.specs.declared.Reason.TheVariants.{FractionsAbove, SoilUneven, ScatteredTrees}
use Rattle.reasons.specs.declared.row_reasons.Above.{Above}
use Rattle.reasons.specs.Above.{above_from}
use Rattle.reasons.specs.Reasons.{row_named, limit_by, limit_reason, fractions_by, fractions_reason, soil_by, soil_reason, trees_by, trees_reason}
use Rattle.reasons.specs.Explains.{RowStands}

pub id_used : (f : Filed) (j : ℕ) → bad_id f j ≡ true → f.used j ≡ true
unfolding bad_id
id_used f j e = (and-true (f.used j) _ e).0

-- the record one place lower has the same kind
pub id_parts : (f : Filed) (j : ℕ) → bad_id f j ≡ true → (has_id (f.kind j) ≡ true) × (0 < j) × (f.kind (j - 1) ≡ f.kind j)
unfolding bad_id
id_parts f j e =
    let h = and-true (has_id (f.kind j)) _ (and-true (f.used j) _ e).1 in
    let z = and-true (ltb 0 j) _ h.1 in
    (h.0, ltb-true 0 j z.0, eqb-true (f.kind (j - 1)) (f.kind j) (and-true (eqb (f.kind (j - 1)) (f.kind j)) _ z.1).0)

pub id_order : (f : Filed) (j : ℕ) → bad_id f j ≡ true → id_of (f.row j) ≤ id_of (f.row (j - 1))
unfolding bad_id
id_order f j e =
    let h = and-true (has_id (f.kind j)) _ (and-true (f.used j) _ e).1 in
    leb-true _ _ (and-true (eqb (f.kind (j - 1)) (f.kind j)) _ (and-true (ltb 0 j) _ h.1).1).1

pub id_broken : (f : Filed) (j : ℕ) → f.used j ≡ true → has_id (f.kind j) ≡ true → 0 < j → f.kind (j - 1) ≡ f.kind j
    → id_of (f.row j) ≤ id_of (f.row (j - 1)) → bad_id f j ≡ true
unfolding bad_id
id_broken f j u h z k l = sym (on u (on h (on (lt-ltb 0 j z) (on (eq-eqb (f.kind (j - 1)) (f.kind j) k) (sym (le-leb _ _ l))))))

-- where its record starts
start_of : (j : ℕ) {at : ℕ} → at ≡ record_at (0 + j / 12) (j % 12) → at ≡ record_at (j / 12) (j % 12)
start_of j e = omega (arith, e)

pub id_there : (s : List ℕ) (j : ℕ) {at v : ℕ} → has_id ((filed s).kind j) ≡ true → at ≡ record_at (0 + j / 12) (j % 12) → v ≡ number 4 s at → v ≡ id_of ((filed s).row j)
id_there s j h e q = q ∙ ap (number 4 s) (start_of j e) ∙ sym (id_number ((filed s).kind j) s (record_at (j / 12) (j % 12)) h)

has_id_lem : (k : ℕ) → 0 < k → k ≤ kinds → (k ≡ parameters_kind → ⊥) → has_id k ≡ true
has_id_lem k a b c = rw (lt-ltb 0 k a, le-leb k kinds b, ne_eqb k parameters_kind c)

pub row-stands : (s : List ℕ) (p : ℕ) → p < 12 * blocks s → (filed s).used p ≡ true → (0 < (filed s).kind p) × ((filed s).kind p ≤ kinds)
    → RowStands s (row_named s p)
row-stands s p i u k = record {
  inside = i;
  used_there = u;
  kind_there = refl;
  known-kind = k;
  id_there = λ o. sym (id_number ((filed s).kind p) s (record_at (p / 12) (p % 12)) (has_id_lem ((filed s).kind p) k.0 k.1 o));
}

pub row_there : (s : List ℕ) (p : ℕ) {k at v : ℕ} → k ≡ (filed s).kind p → at ≡ record_at (0 + p / 12) (p % 12) → v ≡ number 4 s at
    → record { place = p; kind = k; id = v } ≡ row_named s p
row_there s p k e q = rw (k, q, start_of p e)

pub fractions_there : (s : List ℕ) (p : ℕ) {w : Row} {at x y z : ℕ} → (filed s).kind p ≡ 1 → w ≡ row_named s p → at ≡ record_at (0 + p / 12) (p % 12)
    → x ≡ number 2 s (at + 12) → y ≡ number 2 s (at + 18) → z ≡ number 2 s (at + 32) → FractionsAbove w x y z (x + y + z) ≡ fractions_reason s p
unfolding row_from
fractions_there s p k w e x y z =
    rw (w, x, y, z, start_of p e) (ap (λ (n : ℕ). fractions_by (row_named s p) (row_at (layout n) s (record_at (p / 12) (p % 12)))) (sym k))

pub limit_there : (s : List ℕ) (p : ℕ) {w : Row} {at : ℕ} {a : Above} → w ≡ row_named s p → at ≡ record_at (0 + p / 12) (p % 12)
    → a ≡ above_from 0 (layout w.kind) (row_at (layout w.kind) s at) → limit_by w a ≡ limit_reason s p
limit_there s p w e q = rw (q, start_of p e, w)

pub soil_there : (s : List ℕ) (p : ℕ) {w : Row} {at t : ℕ} {a : Areas} → (filed s).kind p ≡ 7 → w ≡ row_named s p → at ≡ record_at (0 + p / 12) (p % 12)
    → t ≡ number 2 s (at + 6) → a ≡ areas_of (rows 7 s) t → SoilUneven w t a.now a.then ≡ soil_reason s p
unfolding row_from
soil_there s p k w e t a =
    rw (a, w) (ap (soil_by (row_named s p) (rows 7 s)) (rw (t, start_of p e) (ap (λ (n : ℕ). soil_type (row_at (layout n) s (record_at (p / 12) (p % 12)))) (sym k))))

pub trees_there : (s : List ℕ) (p : ℕ) {w : Row} {at c e : ℕ} → (filed s).kind p ≡ 2 → w ≡ row_named s p → at ≡ record_at (0 + p / 12) (p % 12)
    → c ≡ number 1 s (at + 4) → e ≡ edition s 0 → ScatteredTrees w c e ≡ trees_reason s p
unfolding row_from
trees_there s p k w e c d =
    rw (w, c, d, start_of p e) (ap (λ (n : ℕ). trees_by (row_named s p) (row_at (layout n) s (record_at (p / 12) (p % 12))) (edition s 0)) (sym k))
