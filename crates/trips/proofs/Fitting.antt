-- Rows within their limits fit the widths of their fields. Assumes nothing.
use Prim.Native.Nat.{ℕ, ◌*◌, ◌^◌, ◌<◌}
use mathlib.Core.Path.{◌≡◌, refl}
use mathlib.Core.Bool.{Bool, true, false, ◌&&◌}
use mathlib.Core.List.{List, [], ◌∷◌}
use native.Mathlib.Omega.{arith}
use lib.Dec.{ltb}
use lib.ListN.{length, get_or, drop, length-drop}
use lib.Seq.{length-take-le}
use borrow.Author.Tests.{ltb-true, ltb-false}
use Rattle.form.specs.Layout.{Layout, layout, numbers_of, above_limit}
use Rattle.form.proofs.Tests.{or_none, and-true}
use Rattle.form.proofs.EachKind.{each_layout}
use Rattle.filing.specs.Lists.{rows_in, row_of}
use Rattle.filing.proofs.Stands.{Fits}
use Rattle.filing.proofs.Parts.{row_in}

-- each limit is below what the width of its field can carry
roomy : Layout → Bool
roomy [] = true
roomy (f ∷ l) = ltb f.limit (256 ^ f.width) && roomy l

roomy-fits : (l : Layout) (r : List ℕ) → roomy l ≡ true → above_limit l r ≡ false → Fits l r
unfolding roomy above_limit Fits
roomy-fits [] r h e = tt
roomy-fits (f ∷ l) r h e =
    let g = or_none (ltb f.limit (get_or r 0 0)) (above_limit l (drop 1 r)) e in
    let k = and-true (ltb f.limit (256 ^ f.width)) (roomy l) h in
    (omega (arith, ltb-false f.limit (get_or r 0 0) g.0, ltb-true f.limit (256 ^ f.width) k.0), roomy-fits l (drop 1 r) k.1 g.1)

pub fits : (kind : ℕ) (r : List ℕ) → above_limit (layout kind) r ≡ false → Fits (layout kind) r
unfolding roomy
fits kind r e = roomy-fits (layout kind) r (each_layout roomy refl refl kind) e

pub length-row_of : (kind : ℕ) (r : List ℕ) (j : ℕ) → j < rows_in kind (length r) → length (row_of kind r j) ≡ numbers_of kind
length-row_of kind r j h =
    length-take-le (numbers_of kind) (drop (numbers_of kind * j) r) (rw length-drop (omega (arith, row_in (numbers_of kind) j (length r) h)))
