-- What comes next in a file, test by test. Assumes nothing.
--     none_said, many-said, ends-inside, piece_there     by the number of blocks that a header says
--     no_size, sized_short, sized_there                  by the size that this number comes to
--     file_ended, inside_header, header_read             by the bytes that are left; none_allowed, one_allowed, by how many returns were taken
use Rattle.std.specs.Prelude.{None, Some, ok_or, Result, Ok, Err}
use Prim.Native.Nat.{ℕ, ◌*◌, ◌<◌, ◌≤◌}
use mathlib.Core.Path.{◌≡◌, refl, sym, ap}
use mathlib.Core.Bool.{Bool, true, false, cond, ◌||◌}
use mathlib.Core.List.{List}
use native.Mathlib.Omega.{arith}
use borrow.Author.Tests.{lt-ltb, le-ltb, eq-eqb, ne_eqb}
use lib.ListN.{length}
use lib.Dec.{eqb, ltb}
use Rattle.form.specs.Block.{most_blocks, blocks_said}
use Rattle.cutting.specs.declared.Stop.{Stop}
use Rattle.cutting.specs.Cutting.{most_returns, size_said, sized_by, next_of, end_of, next_after}
use Rattle.cutting.specs.declared.Stop.TheVariants.{Whole, Blocks, Short, Many}

module _ (n l : ℕ) where
  pub none_said : n ≡ 0 → Err (Blocks n) ≡ sized_by n l
  unfolding sized_by
  none_said h = rw (eq-eqb n 0 h)

  pub many-said : (n ≡ 0 → ⊥) → most_blocks < n → Err (Blocks n) ≡ sized_by n l
  unfolding sized_by
  many-said z h = rw (ne_eqb n 0 z, lt-ltb most_blocks n h)

  pub ends-inside : (n ≡ 0 → ⊥) → n ≤ most_blocks → l < 512 * n → Err Short ≡ sized_by n l
  unfolding sized_by
  ends-inside z h s = rw (ne_eqb n 0 z, le-ltb most_blocks n h, lt-ltb l (512 * n) s)

  pub piece_there : (n ≡ 0 → ⊥) → n ≤ most_blocks → 512 * n ≤ l → Ok (512 * n) ≡ sized_by n l
  unfolding sized_by
  piece_there z h s = rw (ne_eqb n 0 z, le-ltb most_blocks n h, le-ltb l (512 * n) s)

module _ (n l : ℕ) where
  none_by : (w : Stop) (b : Bool) → ok_or (cond b None (Some (512 * n))) (Blocks n) ≡ Err w → ◌≡◌ {A = Result ℕ Stop} (Err w) (cond b (Err (Blocks n)) (cond (ltb l (512 * n)) (Err Short) (Ok (512 * n))))
  none_by w true e = sym e
  none_by w false e = cc

  pub no_size : (w : Stop) → ok_or (size_said n) (Blocks n) ≡ Err w → Err w ≡ sized_by n l
  unfolding sized_by
  no_size w e = none_by w (eqb n 0 || ltb most_blocks n) e

  some_by : (m : ℕ) (b : Bool) → ok_or (cond b None (Some (512 * n))) (Blocks n) ≡ Ok m → (b ≡ false) × (m ≡ 512 * n)
  some_by m true e = cc
  some_by m false e = (refl, cc)

  module _ (m : ℕ) (e : ok_or (size_said n) (Blocks n) ≡ Ok m) where
    pub sized_short : l < m → Err Short ≡ sized_by n l
    unfolding sized_by
    sized_short h = let p = some_by m (eqb n 0 || ltb most_blocks n) e in rw (p.0, lt-ltb l (512 * n) (omega (arith, p.1, h)))

    pub sized_there : m ≤ l → Ok m ≡ sized_by n l
    unfolding sized_by
    sized_there h = let p = some_by m (eqb n 0 || ltb most_blocks n) e in rw (p.0, le-ltb l (512 * n) (omega (arith, p.1, h))) (ap Ok p.1)

module _ (s : List ℕ) where
  pub file_ended : length s ≡ 0 → Err Whole ≡ next_of s
  unfolding next_of
  file_ended h = rw (eq-eqb (length s) 0 h)

  pub inside_header : (length s ≡ 0 → ⊥) → length s < 6 → Err Short ≡ next_of s
  unfolding next_of
  inside_header z h = rw (ne_eqb (length s) 0 z, lt-ltb (length s) 6 h)

  pub header_read : {r : Result ℕ Stop} → (length s ≡ 0 → ⊥) → 6 ≤ length s → r ≡ sized_by (blocks_said s 0) (length s) → r ≡ next_of s
  unfolding next_of
  header_read z h e = rw (ne_eqb (length s) 0 z, le-ltb (length s) 6 h) e

  pub one_allowed : {r : Result ℕ Stop} (k : ℕ) → k < most_returns → r ≡ next_of s → r ≡ next_after k s
  one_allowed k h e = rw (lt-ltb k most_returns h) e

  pub none_allowed : (k : ℕ) → (length s ≡ 0 → ⊥) → most_returns ≤ k → Err Many ≡ next_after k s
  unfolding end_of
  none_allowed k z h = rw (le-ltb k most_returns h, ne_eqb (length s) 0 z)

  pub ended-after : (k : ℕ) → length s ≡ 0 → Err Whole ≡ next_after k s
  unfolding end_of next_of
  ended-after k h = rw (eq-eqb (length s) 0 h) (by (ltb k most_returns))
    where
      by : (b : Bool) → ◌≡◌ {A = Result ℕ Stop} (Err Whole) (cond b (Err Whole) (Err Whole))
      by true = refl
      by false = refl
