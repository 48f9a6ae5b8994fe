-- The parts of rows to be written, by the list's own numbers, and how large they are. Assumes nothing.
use Prim.Native.Nat.{ℕ, zero, suc, ◌+◌, ◌*◌, ◌^◌, ◌≤◌, ◌<◌}
use mathlib.Core.Path.{◌≡◌, refl}
use mathlib.Core.List.{List}
use native.Mathlib.Numerals.{bound}
use native.Mathlib.Nat.{le-pred_of_lt}
use native.Mathlib.Omega.{arith}
use lib.Dec.{lit<}
use lib.ListN.{get_or}
use Rattle.form.specs.Records.{counted_difference}
use Rattle.form.specs.Sums.{harvest_part, cleared_part}
use Rattle.filing.specs.Lists.{row_of}
use Rattle.lists.proofs.Numbers.{number_in}
use Rattle.balance.specs.Wood.{wood_part}

module _ (r : List ℕ) (j : ℕ) where
  pub cleared-part : get_or r (15 * j + 1) 0 * counted_difference (get_or r (15 * j + 2) 0) (get_or r (15 * j + 3) 0) * get_or r (15 * j + 7) 0 ≡ cleared_part (row_of 1 r j)
  unfolding cleared_part
  cleared-part = rw (number_in 1 r j 1 (omega arith), number_in 1 r j 2 (omega arith), number_in 1 r j 3 (omega arith), number_in 1 r j 7 (omega arith)) refl

  pub harvest-part : get_or r (5 * j + 1) 0 * get_or r (5 * j + 2) 0 + 1000 * (get_or r (5 * j + 3) 0 + get_or r (5 * j + 4) 0) ≡ harvest_part (row_of 3 r j)
  unfolding harvest_part
  harvest-part = rw (number_in 3 r j 1 (omega arith), number_in 3 r j 2 (omega arith), number_in 3 r j 3 (omega arith), number_in 3 r j 4 (omega arith)) refl

-- numbers of 32 bits
pub two_numbers : (a b : ℕ) → a < 2 ^ 32 → b < 2 ^ 32 → a * b < 2 ^ 64
two_numbers a b ha hb = grw (bound, le-pred_of_lt ha, le-pred_of_lt hb) (lit< tt)

pub three-numbers : (a b c : ℕ) → a < 2 ^ 32 → b < 2 ^ 32 → c < 2 ^ 32 → a * b * c < 2 ^ 96
three-numbers a b c ha hb hc = grw (bound, le-pred_of_lt ha, le-pred_of_lt hb, le-pred_of_lt hc) (lit< tt)

-- a kind that has no wood
pub no_wood : (k : ℕ) (r : List ℕ) → (k ≡ 1 → ⊥) → (k ≡ 3 → ⊥) → 0 ≡ wood_part k r
no_wood zero r a b = refl
no_wood (suc zero) r a b = absurd (a refl)
no_wood (suc (suc zero)) r a b = refl
no_wood (suc (suc (suc zero))) r a b = absurd (b refl)
no_wood (suc (suc (suc (suc k)))) r a b = refl

-- a list has few rows
pub few : (n m : ℕ) → n ≡ m → m ≤ 32 → n ≤ 32
few n m e h = omega arith

pub next_fits : (j n : ℕ) → j < n → n ≤ 32 → j + 1 < 2 ^ 64
next_fits j n h l = omega arith
