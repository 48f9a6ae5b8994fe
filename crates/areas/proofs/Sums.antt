-- The two area sums of a soil type, row by row. Assumes nothing.
--     number_of              number i of row j of a list
--     row_of_type, row_of_other    a row's areas, behind those before it
--     sums_none, sums-more, sums_all    the sums over the first rows of a list
--     soils_at, soils-count    its rows, by their numbers
use Prim.Native.Nat.{ℕ, ◌+◌, ◌*◌, ◌^◌, ◌≤◌, ◌<◌}
use mathlib.Core.Path.{◌≡◌, refl, sym, ap, ap₂, ◌∙◌}
use mathlib.Core.List.{List, []}
use native.Mathlib.Nat.{add-zero, zero-add}
use native.Mathlib.Omega.{arith}
use borrow.Author.Tests.{eq-eqb, ne_eqb}
use lib.ListN.{length, get_or}
use Rattle.form.specs.Records.{rows_below}
use Rattle.form.specs.Sums.{sum_of, soil_type, area_now, area_then, area_in}
use Rattle.standing.proofs.StandRows.{from_length, from_at}
use Rattle.filing.specs.Lists.{rows_in, row_of, filed_list}
use Rattle.decoding.proofs.Decoded.{list-rows}
use Rattle.lists.proofs.Numbers.{number_in}
use Rattle.lists.proofs.KindRows.{rows_next, rows_all, sum_more}
use Rattle.areas.specs.Areas.{soils_in, areas_of, with_row}
use Rattle.areas.specs.declared.Areas.{Areas}

pub number_of : (r : List ℕ) (j i : ℕ) → i < 9 → get_or r (9 * j + i) 0 ≡ get_or (row_of 7 r j) i 0
number_of r j i h = sym (number_in 7 r j i h)

module _ (type : ℕ) (a : Areas) (r : List ℕ) where
  pub row_of_other : (soil_type r ≡ type → ⊥) → a ≡ with_row type a r
  unfolding area_in
  row_of_other h = rw (ne_eqb (soil_type r) type h, add-zero a.now, add-zero a.then) refl

  pub row_of_type : {m t : ℕ} → soil_type r ≡ type → m ≡ area_now r → t ≡ area_then r → ◌≡◌ {A = Areas} (record { now = a.now + m; then = a.then + t }) (with_row type a r)
  unfolding area_in
  row_of_type e em et = rw (eq-eqb (soil_type r) type e, ← em, ← et) refl

-- a loop over few rows
pub next_fits : (j n : ℕ) {m : ℕ} → j < n → n ≡ m → m ≤ 32 → j + 1 < 2 ^ 64
next_fits j n h e l = omega arith

module _ (type : ℕ) (r : List ℕ) where
  pub sums_none : ◌≡◌ {A = Areas} (record { now = 0; then = 0 }) (areas_of (rows_below (filed_list 7 r) 7 0) type)
  unfolding sum_of rows_below
  sums_none = refl

  pub sums-more : (j : ℕ) {a b : Areas} → j < rows_in 7 (length r) → a ≡ areas_of (rows_below (filed_list 7 r) 7 j) type → b ≡ with_row type a (row_of 7 r j)
      → b ≡ areas_of (rows_below (filed_list 7 r) 7 (j + 1)) type
  sums-more j {a} {b} h ea eb =
      let rs = rows_below (filed_list 7 r) 7 j in
      let turn : (area : List ℕ → ℕ) → sum_of (area_in type area) rs + area_in type area (row_of 7 r j) ≡ sum_of (area_in type area) (rows_below (filed_list 7 r) 7 (j + 1)) =
      λ area. sym (ap (sum_of (area_in type area)) (rows_next 7 r j h) ∙ sum_more (area_in type area) rs (row_of 7 r j)) in
      eb ∙ ap (λ (x : Areas). with_row type x (row_of 7 r j)) ea
      ∙ ap₂ (λ (m t : ℕ). record { now = m; then = t }) (turn area_now) (turn area_then)

  pub sums_all : (j : ℕ) → j ≡ rows_in 7 (length r) → areas_of (rows_below (filed_list 7 r) 7 j) type ≡ areas_of (soils_in r) type
  sums_all j e = ap (λ (x : List (List ℕ)). areas_of x type) (rows_all 7 r j e)

module _ (r : List ℕ) where
  pub soils-count : length (soils_in r) ≡ rows_in 7 (length r)
  soils-count = ap length (list-rows 7 r) ∙ from_length (filed_list 7 r) 0 (rows_in 7 (length r))

  pub soils_at : (i : ℕ) → i < rows_in 7 (length r) → get_or (soils_in r) i [] ≡ row_of 7 r i
  unfolding filed_list
  soils_at i h = ap (λ (x : List (List ℕ)). get_or x i []) (list-rows 7 r) ∙ from_at (filed_list 7 r) 0 (rows_in 7 (length r)) i h ∙ ap (row_of 7 r) (zero-add i)
