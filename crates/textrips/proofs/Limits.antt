-- Rows that can be written have fields within their limits. Assumes nothing.
--     row_within      each row of each list, by rule 6
--     number_small    so each number is below 2^32; unit-known: a stock row's unit is land or trees
use Prim.Native.Nat.{ℕ, zero, suc, ◌+◌, ◌*◌, ◌<◌, ◌≤◌}
use mathlib.Core.Path.{◌≡◌, refl, ◌∙◌}
use mathlib.Core.Bool.{Bool, true, false, ◌&&◌}
use mathlib.Core.List.{List, [], ◌∷◌}
use native.Mathlib.Nat.{zero-add}
use native.Mathlib.Decide.{dec_lt}
use native.Mathlib.Omega.{arith}
use borrow.Author.Tests.{lt-ltb, leb-true}
use lib.Dec.{leb, lit<}
use lib.ListN.{length, get_or, get_or-eq_default}
use Rattle.form.specs.Layout.{Layout, kinds, layout, numbers_of, field, above_limit}
use Rattle.form.specs.Records.{broken_by}
use Rattle.form.proofs.Order.{Kept, kept_of}
use Rattle.form.proofs.Tests.{and_rest, and-true}
use Rattle.form.proofs.EachKind.{each_layout}
use Rattle.standing.proofs.Accepted.{limit_of}
use Rattle.filing.specs.Lists.{Lists, of_kind, rows_in, row_of, filed_list, filed_lists}
use Rattle.trips.proofs.Shape.{start_of, start_next, start_mono, list_at}
use Rattle.trips.proofs.Standing.{Clear, places-blocks}

module _ (e : ℕ) (l : Lists) (ok : Clear e l) (k i : ℕ) (h : k < kinds) (there : i < rows_in (suc k) (length (of_kind l (suc k)))) where
  pub row_within : above_limit (layout (suc k)) (row_of (suc k) (of_kind l (suc k)) i) ≡ false
  unfolding broken_by filed_list Kept
  row_within =
      let f = filed_lists l in
      let at = 12 * start_of l k + i in
      let same = (list_at l k (omega (arith, ok.each))).at i (omega arith) in
      let used : f.used at ≡ true = same.used ∙ lt-ltb (0 + i) (rows_in (suc k) (length (of_kind l (suc k)))) (omega arith) in
      let inside : at < f.places = omega (arith, places-blocks e l ok, start_next l k, start_mono l (suc k) kinds h) in
      let kept = and_rest (f.used at) _ used (kept_of 6 ok.records at inside) in
      rw (same.kind, same.row used, zero-add i) at kept

-- no limit is above 4,294,967,295
unfoldable small : Layout → Bool
small [] = true
small (f ∷ l) = leb f.limit 4294967295 && small l

small_at : (l : Layout) (i : ℕ) → small l ≡ true → i < length l → (get_or l i (field 0 0 0)).limit ≤ 4294967295
unfolding small
small_at [] i s h = absurd (omega arith)
small_at (f ∷ l) zero s h = leb-true f.limit 4294967295 (and-true (leb f.limit 4294967295) (small l) s).0
small_at (f ∷ l) (suc i) s h = small_at l i (and-true (leb f.limit 4294967295) (small l) s).1 (omega arith)

pub number_small : (kind : ℕ) (r : List ℕ) → above_limit (layout kind) r ≡ false → length r ≡ numbers_of kind → (i : ℕ) → get_or r i 0 ≤ 4294967295
unfolding small
number_small kind r e q i = by (dec_lt i (numbers_of kind))
  where
    by : Dec (i < numbers_of kind) → get_or r i 0 ≤ 4294967295
    by (yes h) = omega (arith, limit_of (layout kind) r i (field 0 0 0) h e, small_at (layout kind) i (each_layout small refl refl kind) h)
    by (no h) = rw (get_or-eq_default r 0 {n = i} (omega (arith, h, q))) (omega arith)

pub unit-known : (r : List ℕ) → above_limit (layout 2) r ≡ false → get_or r 1 0 ≤ 1
unit-known r e = limit_of (layout 2) r 1 (field 0 0 0) (lit< tt) e
