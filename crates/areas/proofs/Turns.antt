-- The search for the first row of the lowest uneven soil type, over the rows of a list. Assumes nothing.
--     passed_over, taken_up, left-even    what one row does to the lowest type that was found
--     lower_turn       one row more; found_at, found_nowhere, what was found in the end
--     small_types      types are numbers of 32 bits
use Prim.Native.Nat.{ℕ, ◌+◌, ◌*◌, ◌^◌, ◌≤◌, ◌<◌}
use mathlib.Core.Path.{◌≡◌, refl, sym, ap, ap₂, subst, ◌∙◌}
use mathlib.Core.Bool.{Bool, true, false, cond, not, ◌&&◌, and-false}
use mathlib.Core.List.{List}
use native.Mathlib.Omega.{arith}
use borrow.Author.Tests.{lt-ltb, le-ltb, ltb-true, ltb-false}
use lib.Dec.{ltb}
use lib.ListN.{length, get_or}
use Rattle.form.specs.First.{first, any}
use Rattle.form.specs.Sums.{soil_type, uneven, type_of, uneven_below, lowest_uneven}
use Rattle.std.specs.Prelude.{None, Some}
use Rattle.filing.specs.Lists.{rows_in}
use Rattle.areas.specs.Areas.{soils_in, lower_of, first_uneven}
use Rattle.areas.specs.declared.Lowest.{Lowest}
use Rattle.areas.proofs.Sums.{number_of, soils_at}
use Rattle.areas.proofs.Lowly.{Lowly, lowly_found, lowly_kept, lowly_at, lowly_nowhere}

module _ (soils : List (List ℕ)) (best : Lowest) (i : ℕ) {t type : ℕ} (e : t ≡ type) where
  abbrev this : Lowest
  this = record { soil = type; row = i }

  pub passed_over : best.soil ≤ t → best ≡ lower_of soils best type i
  passed_over h = sym (ap (λ (b : Bool). cond (b && uneven soils type) this best) (le-ltb type best.soil (omega arith)))

  pub taken_up : t < best.soil → true ≡ uneven soils t → ◌≡◌ {A = Lowest} (record { soil = t; row = i }) (lower_of soils best type i)
  taken_up h u =
      ap (λ (x : ℕ). record { soil = x; row = i }) e
      ∙ sym (ap₂ (λ (a b : Bool). cond (a && b) this best) (lt-ltb type best.soil (omega arith)) (sym (u ∙ ap (uneven soils) e)))

  pub left-even : false ≡ uneven soils t → best ≡ lower_of soils best type i
  left-even u =
      sym (ap (λ (b : Bool). cond (ltb type best.soil && b) this best) (sym (u ∙ ap (uneven soils) e))
      ∙ ap (λ (b : Bool). cond b this best) (and-false (ltb type best.soil)))

-- one row more
module _ (soils : List (List ℕ)) (n : ℕ) {best r : Lowest} {j : ℕ} (s : Lowly (type_of soils) (uneven soils) n j best.soil best.row) (h : j < n) where
  pub lower_turn : r ≡ lower_of soils best (type_of soils j) j → Lowly (type_of soils) (uneven soils) n (j + 1) r.soil r.row
  lower_turn e = subst (λ (x : Lowest). Lowly (type_of soils) (uneven soils) n (j + 1) x.soil x.row) (sym e) (go (ltb (type_of soils j) best.soil) (uneven soils (type_of soils j)) refl refl)
    where
      go : (a b : Bool) → ltb (type_of soils j) best.soil ≡ a → uneven soils (type_of soils j) ≡ b
          → let x : Lowest = cond (a && b) (record { soil = type_of soils j; row = j }) best in Lowly (type_of soils) (uneven soils) n (j + 1) x.soil x.row
      go true true ea eb = lowly_found _ _ _ s h (ltb-true (type_of soils j) best.soil ea) eb
      go true false ea eb = lowly_kept _ _ _ s h (λ l. eb)
      go false b ea eb = lowly_kept _ _ _ s h (λ l. absurd (let g = ltb-false (type_of soils j) best.soil ea in omega arith))

-- the rows were all looked at
module _ (soils : List (List ℕ)) {n soil row : ℕ} (e : n ≡ length soils) (s : Lowly (type_of soils) (uneven soils) n n soil row)
    (small : (i : ℕ) → i < n → type_of soils i < 2 ^ 32) where
  abbrev test : ℕ → ℕ → Bool
  test m i = uneven soils (type_of soils i) && not (any (λ k. ltb (type_of soils k) (type_of soils i) && uneven soils (type_of soils k)) m)

  pub found_at : row < n → Some row ≡ first_uneven soils
  unfolding lowest_uneven uneven_below
  found_at h = sym (subst (λ (m : ℕ). first (test m) m ≡ Some row) e (lowly_at (type_of soils) (uneven soils) n s small h))

  pub found_nowhere : n ≤ row → None ≡ first_uneven soils
  unfolding lowest_uneven uneven_below
  found_nowhere h = sym (subst (λ (m : ℕ). first (test m) m ≡ None) e (lowly_nowhere (type_of soils) (uneven soils) n s small h))

pub small_types : (r : List ℕ) → ((i : ℕ) → get_or r i 0 < 2 ^ 32) → (i : ℕ) → i < rows_in 7 (length r) → type_of (soils_in r) i < 2 ^ 32
small_types r h i l = omega (arith, ap soil_type (soils_at r i l), number_of r i 2 (omega arith), h (9 * i + 2))
