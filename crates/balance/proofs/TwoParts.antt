-- The parts of an area that are the lists of kinds 1 and 3. Assumes nothing.
use Prim.Native.Nat.{ℕ, ◌+◌, ◌≤◌}
use mathlib.Core.Path.{◌≡◌, sym}
use mathlib.Core.List.{List}
use native.Mathlib.Nat.{zero-add}
use native.Mathlib.Omega.{arith}
use lib.ListN.{length, get_or}
use Rattle.form.proofs.EachKind.{kinds_are}
use Rattle.filing.proofs.Cut.{total_none, total-next}
use Rattle.lists.specs.Rules.{Good}
use Rattle.lists.proofs.KindRows.{Part, kind-part}

module _ (lengths area : List ℕ) (g : Good lengths (length area)) where
  pub has-three : 3 ≤ length lengths
  has-three = omega (arith, g.each, kinds_are)

  pub first_part : {m : ℕ} → m ≡ get_or lengths 0 0 → Part lengths area 1 0 m
  first_part {m} e = rw (zero-add m) at (kind-part lengths area g 0 {from = 0} (omega (arith, kinds_are)) (sym (total_none lengths)) e)

  pub third-part : {a b m : ℕ} → a ≡ get_or lengths 0 0 → b ≡ get_or lengths 1 0 → m ≡ get_or lengths 2 0 → Part lengths area 3 (a + b) (a + b + m)
  third-part {a} {b} ea eb e =
      kind-part lengths area g 2 (omega (arith, kinds_are))
      (omega (arith, total_none lengths, total-next lengths 0 (omega (arith, has-three)), total-next lengths 1 (omega (arith, has-three)))) e
