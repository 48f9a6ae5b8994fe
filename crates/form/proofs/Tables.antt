-- The id of a row, of every kind that has one, by one test of all layouts. Assumes nothing.
use Prim.Native.Nat.{ℕ, suc, ◌≤◌}
use mathlib.Core.Path.{◌≡◌, refl}
use mathlib.Core.Bool.{Bool, true, false, not, ◌&&◌, false≢true}
use mathlib.Core.List.{List, [], ◌∷◌}
use native.Mathlib.Nat.{add-zero}
use native.Mathlib.Omega.{arith}
use borrow.Author.Tests.{leb-true, eqb-true, not-false}
use lib.Dec.{ltb, leb, eqb}
use Rattle.form.specs.Bytes.{number}
use Rattle.form.specs.Layout.{Layout, kinds, layout, row_from, row_at}
use Rattle.form.specs.Records.{has_id, id_of}
use Rattle.form.specs.First.{any}
use Rattle.form.proofs.Tests.{and-true, and_rest}
use Rattle.form.proofs.Search.{any_each}

-- a layout's first field is four bytes, with no zero before it
starts_with_id : Layout → Bool
starts_with_id [] = false
starts_with_id (f ∷ l) = eqb f.zeros 0 && eqb f.width 4

ids_first : any (λ k. has_id k && not (starts_with_id (layout k))) (suc kinds) ≡ false
unfolding any kinds starts_with_id
ids_first = refl

id_of_lem : (l : Layout) (s : List ℕ) (at : ℕ) → starts_with_id l ≡ true → id_of (row_at l s at) ≡ number 4 s at
unfolding row_from starts_with_id
id_of_lem [] s at h = absurd (false≢true h)
id_of_lem (f ∷ l) s at h =
    let g = and-true (eqb f.zeros 0) (eqb f.width 4) h in
    rw (eqb-true f.zeros 0 g.0, eqb-true f.width 4 g.1, add-zero)

-- a row of a kind with an id starts with it
pub id_number : (k : ℕ) (s : List ℕ) (at : ℕ) → has_id k ≡ true → id_of (row_at (layout k) s at) ≡ number 4 s at
id_number k s at h =
    let le : k ≤ kinds = leb-true k kinds (and-true (leb k kinds) _ (and-true (ltb 0 k) _ h).1).0 in
    id_of_lem (layout k) s at (not-false _ (and_rest (has_id k) _ h (any_each _ (suc kinds) ids_first k (omega arith))))
