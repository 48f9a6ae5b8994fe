-- How large the steps from one column to the next can be, so that each has room. Assumes nothing.
use Prim.Native.Nat.{ℕ, ◌*◌, ◌^◌, ◌<◌, ◌≤◌}
use mathlib.Core.Path.{◌≡◌, ap}
use native.Mathlib.Omega.{arith}
use lib.IntN.{ℤ, pos, nat_abs, ◌-ℤ◌, ◌*ℤ◌}
use Rattle.wide.specs.Numbers.{value}
use Rattle.wide.specs.Signs.{amount, signed_of}
use Rattle.wide.proofs.Laws.{value_words}
use Rattle.wide.proofs.SignLaws.{size-amount, size_minus, size-times}
use Rattle.totals.specs.declared.DryMatter.{DryMatter}
use Rattle.totals.specs.declared.Carbon.{Carbon}
use Rattle.totals.proofs.Limits.{thousand}
use Rattle.units.specs.Columns.{column_m, column_o, column_p}
use Rattle.units.specs.declared.NetDryMatter.{NetDryMatter}
use Rattle.units.specs.declared.NetCarbon.{NetCarbon}

-- the size of a number in its form
size_of : (z : ℤ) → value (signed_of z).size ≡ nat_abs z
size_of z = (value_words (nat_abs z)).number

-- the columns of 5-1, from sums of one word
pub size_M : (k l : DryMatter) → value k.0 < 2 ^ 64 → value l.0 < 2 ^ 64 → value (column_m k l).0.size < 2 ^ 80
size_M k l hk hl = let z = pos (100 * value k.0) -ℤ pos (value l.0) in omega (arith, size_of z, size_minus (100 * value k.0) (pos (value l.0)))

pub size_O : (m : NetDryMatter) (n : ℕ) → value m.0.size < 2 ^ 80 → n ≤ 1000 → value (column_o m n).0.size < 2 ^ 90
size_O m n hm hn = omega (arith, size_of (amount m.0 *ℤ pos n), size-times (amount m.0) n, thousand 80 _ n hm hn, ap (λ (x : ℕ). x * n) (size-amount m.0))

pub size_P : (e : Carbon) (o : NetCarbon) → value e.0 < 2 ^ 64 → value o.0.size < 2 ^ 90 → value (column_p e o).0.size < 2 ^ 100
size_P e o he ho = omega (arith, size_of (pos (100 * value e.0) -ℤ amount o.0), size_minus (100 * value e.0) (amount o.0), size-amount o.0)
