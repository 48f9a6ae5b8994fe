-- The rows of scattered trees, counted. Assumes nothing.
--     none_counted    where no row is of scattered trees, there are none of them; part_of_one, a row is at most one of them
use Prim.Native.Nat.{ℕ, suc, ◌≤◌, ◌<◌}
use mathlib.Core.Path.{◌≡◌, refl}
use mathlib.Core.Bool.{Bool, true, false, cond}
use mathlib.Core.List.{List, [], ◌∷◌}
use native.Mathlib.Omega.{arith}
use lib.ListN.{length, get_or}
use Rattle.form.specs.Records.{is_scattered}
use Rattle.form.specs.Sums.{sum_of, scattered_part, scattered_in}

pub part_of_one : (r : List ℕ) → scattered_part r ≤ 1
unfolding scattered_part
part_of_one r = go (is_scattered r)
  where
    go : (b : Bool) → cond b 1 0 ≤ 1
    go true = omega arith
    go false = omega arith

land : (r : List ℕ) → is_scattered r ≡ false → scattered_part r ≡ 0
unfolding scattered_part
land r e = rw e refl

pub none_counted : (rs : List (List ℕ)) → ((i : ℕ) → i < length rs → is_scattered (get_or rs i []) ≡ false) → scattered_in rs ≡ 0
unfolding sum_of
none_counted [] h = refl
none_counted (r ∷ rs) h = omega (arith, land r (h 0 (omega arith)), none_counted rs (λ i l. h (suc i) (omega arith)))
