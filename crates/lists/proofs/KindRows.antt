-- The rows of a kind among the records that lists would make. Assumes nothing.
--     rows_next, rows_all             a list's rows, one after the other; sum_more, what they add up to
--     kind-part                       the part of an area that is the list of a kind: whose rows it has, and how few
use Prim.Native.Nat.{ℕ, zero, suc, ◌+◌, ◌-◌, ◌≤◌, ◌<◌}
use mathlib.Core.Path.{◌≡◌, refl, sym, ap, ap₂, ◌∙◌}
use mathlib.Core.Bool.{and-false}
use mathlib.Core.List.{List, [], ◌∷◌, ◌++◌, append-nil, append_assoc}
use native.Mathlib.Nat.{add-zero, zero-add}
use native.Mathlib.Numerals.{add-one}
use native.Mathlib.Omega.{arith}
use borrow.Author.Tests.{lt-ltb, le-ltb, eq-eqb, ne_eqb}
use lib.ListN.{length, get_or, take, drop}
use Rattle.form.specs.Layout.{kinds}
use Rattle.form.specs.Records.{Filed, rows_below, filed_rows}
use Rattle.form.specs.Sums.{sum_of}
use Rattle.filing.specs.Lists.{Lists, cut, total, rows_in, row_of, filed_list, behind, filed_from, filed_lists}
use Rattle.filing.proofs.Cut.{cut-length}
use Rattle.filing.proofs.Alike.{Same, front-alike, back_alike, one_alike, rows_alike}
use Rattle.lists.specs.Rules.{Good}
use Rattle.lists.proofs.Places.{kinds_from}
use Rattle.lists.proofs.Scan.{part_in, part_is, part-long}

module _ (f g : Filed) (k : ℕ) where
  -- records behind others: first the rows of the first, then those of the second
  rows_behind_lem : (m : ℕ) → rows_below (behind f g) k (f.places + m) ≡ rows_below f k f.places ++ rows_below g k m
  unfolding rows_below
  rows_behind_lem zero =
      rw (add-zero f.places, append-nil (rows_below f k f.places))
      (rows_alike k f.places (λ j l. rw (zero-add j) at ((front-alike f g).at j l)))
  rows_behind_lem (suc m) =
      let e : f.places + suc m ≡ suc (f.places + m) = omega arith in
      let s : Same (behind f g) (f.places + m) g m = rw (zero-add m) at ((back_alike f g (suc m)).at m (omega arith)) in
      rw e (ap₂ (λ (x y : List (List ℕ)). x ++ y) (rows_behind_lem m) (one_alike k s) ∙ append_assoc (rows_below f k f.places) (rows_below g k m) _)

-- no record of the kind
no_rows : (f : Filed) (k n : ℕ) → ((j : ℕ) → f.kind j ≡ k → ⊥) → rows_below f k n ≡ []
unfolding rows_below
no_rows f k zero h = refl
no_rows f k (suc n) h = rw (no_rows f k n h, ne_eqb (f.kind n) k (h n), and-false (f.used n))

-- of the lists from kind j on, the one of kind j + i
kind-rows : (j : ℕ) (l : Lists) (i : ℕ) → i < length l → filed_rows (filed_from j l) (j + i) ≡ filed_rows (filed_list (j + i) (get_or l i [])) (j + i)
unfolding filed_from behind filed_list
kind-rows j [] i h = absurd (omega arith)
kind-rows j (r ∷ l) zero h =
    let rest = filed_from (suc j) l in
    rw (add-zero j)
    (rows_behind_lem (filed_list j r) rest j rest.places
    ∙ ap (λ (x : List (List ℕ)). filed_rows (filed_list j r) j ++ x) (no_rows rest j rest.places (λ i e. omega (arith, kinds_from (suc j) l i)))
    ∙ append-nil (filed_rows (filed_list j r) j))
kind-rows j (r ∷ l) (suc i) h =
    let e : j + suc i ≡ suc j + i = omega arith in
    let k = suc j + i in
    let rest = filed_from (suc j) l in
    rw e
    (rows_behind_lem (filed_list j r) rest k rest.places
    ∙ ap (λ (x : List (List ℕ)). x ++ filed_rows rest k) (no_rows (filed_list j r) k (filed_list j r).places (λ i q. other q))
    ∙ kind-rows (suc j) l i (omega arith))
  where
    other : j ≡ suc j + i → ⊥
    other q = omega arith

-- the rows of one list, which are its first places
module _ (k : ℕ) (r : List ℕ) where
  pub rows_next : (j : ℕ) → j < rows_in k (length r) → rows_below (filed_list k r) k (j + 1) ≡ rows_below (filed_list k r) k j ++ (row_of k r j ∷ [])
  unfolding rows_below filed_list
  rows_next j h = rw (add-one j, lt-ltb j (rows_in k (length r)) h, eq-eqb k k refl)

  rest_none : (n d : ℕ) → rows_in k (length r) ≤ n → rows_below (filed_list k r) k (n + d) ≡ rows_below (filed_list k r) k n
  unfolding rows_below filed_list
  rest_none n zero h = rw (add-zero n)
  rest_none n (suc d) h =
      let e : n + suc d ≡ suc (n + d) = omega arith in
      rw (e, le-ltb (n + d) (rows_in k (length r)) (omega arith), append-nil (rows_below (filed_list k r) k (n + d))) (rest_none n d h)

  -- past the last row, all of them
  pub rows_all : (j : ℕ) → j ≡ rows_in k (length r) → rows_below (filed_list k r) k j ≡ filed_rows (filed_list k r) k
  unfolding filed_list
  rows_all j e =
      let n = (filed_list k r).places in
      let s : j + (n - j) ≡ n = omega arith in
      sym (rest_none j (n - j) (omega arith)) ∙ ap (rows_below (filed_list k r) k) s

-- one row more in a sum
pub sum_more : (f : List ℕ → ℕ) (rs : List (List ℕ)) (r : List ℕ) → sum_of f (rs ++ (r ∷ [])) ≡ sum_of f rs + f r
unfolding sum_of
sum_more f [] r = omega arith
sum_more f (x ∷ rs) r = omega (arith, sum_more f rs r)

-- the part of an area that is the list of a kind: it lies in the area, has few rows, and they are the kind's
pub record Part (lengths area : List ℕ) (kind from end : ℕ) : Type 0 where
  pub inside : end ≤ length area
  pub few : rows_in kind (length (take (end - from) (drop from area))) ≤ 32
  pub rows : filed_rows (filed_list kind (take (end - from) (drop from area))) kind ≡ filed_rows (filed_lists (cut lengths area)) kind

module _ (lengths area : List ℕ) (g : Good lengths (length area)) where
  pub kind-part : (k : ℕ) {from m : ℕ} → k < kinds → from ≡ total (take k lengths) → m ≡ get_or lengths k 0 → Part lengths area (suc k) from (from + m)
  kind-part k h at e =
      let one : 1 + k ≡ suc k = omega arith in
      record {
        inside = part_in area k g at h e;
        few = rw (part-long area k g at h e, e) (g.few k h);
        rows = rw (part_is area k g at h e) (sym (rw one at (kind-rows 1 (cut lengths area) k (omega (arith, cut-length lengths area, g.each)))));
      }
