-- Number 12's two masses, each in one word. Assumes nothing.
--     wood_there    the lower words of the wood, where a return can be read row by row
use Prim.Native.Nat.{ℕ, ◌*◌, ◌^◌, ◌<◌}
use mathlib.Core.Path.{◌≡◌, refl}
use mathlib.Core.List.{List}
use native.Mathlib.Omega.{arith}
use lib.Dec.{lit≤}
use Rattle.form.specs.Sums.{harvest_part, column_k, column_l}
use Rattle.form.specs.Verdict.{rows, Formed}
use Rattle.form.specs.declared.Counts.{Counts}
use Rattle.form.proofs.EachKind.{kinds_are}
use Rattle.wide.specs.Numbers.{words_of}
use Rattle.totals.proofs.Limits.{harvest-below}
use Rattle.totals.proofs.Accepted.{small, columns-small}
use Rattle.balance.specs.Wood.{wood_of}
use Rattle.balance.specs.declared.Wood.{Wood}
use Rattle.reasons.specs.declared.Reason.TheVariants.{ClearedAbove}
use Rattle.reasons.specs.Reasons.{wood_reason}

low_word : {n : ℕ} → n < 2 ^ 64 → (words_of n).lo ≡ n
unfolding words_of
low_word h = omega arith

module _ (s : List ℕ) (c : Counts) (f : Formed s c) where
  used-small : 100 * column_k (rows 3 s) < 2 ^ 64
  used-small = omega (arith, small s c f 3 harvest_part (10 ^ 12) (lit≤ tt) (omega (arith, kinds_are)) harvest-below)

  cleared-small : column_l (rows 1 s) < 2 ^ 64
  cleared-small = (columns-small s c f).2

  pub wood_there : {w : Wood} → w ≡ wood_of (rows 3 s) (rows 1 s) → ClearedAbove w.used.0.lo w.cleared.0.lo ≡ wood_reason s
  wood_there e = rw (e, low_word used-small, low_word cleared-small) refl
