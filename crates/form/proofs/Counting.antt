-- Laws of the blocks and rows of a kind, counted block by block. Assumes nothing.
use Prim.Native.Nat.{ℕ, zero, suc, ◌+◌, ◌≤◌}
use mathlib.Core.Path.{◌≡◌, refl}
use mathlib.Core.Bool.{cond}
use mathlib.Core.List.{List}
use lib.Dec.{eqb}
use native.Mathlib.Numerals.{add-one}
use native.Mathlib.Omega.{arith}
use Rattle.form.specs.Block.{kind_of, count_of, blocks_below}
use Rattle.form.specs.Verdict.{count_below, count_in}
use Rattle.form.specs.Standing.{blocks_for, first_block}
use Rattle.form.specs.declared.Counts.{Counts}

pub blocks_none : (k : ℕ) (s : List ℕ) → blocks_below k s 0 ≡ 0
unfolding blocks_below
blocks_none k s = refl

pub blocks_more : (k : ℕ) (s : List ℕ) (n : ℕ) → blocks_below k s (n + 1) ≡ blocks_below k s n + cond (eqb (kind_of s n) k) 1 0
unfolding blocks_below
blocks_more k s n = rw add-one

pub count_none : (k : ℕ) (s : List ℕ) → count_below k s 0 ≡ 0
unfolding count_below
count_none k s = refl

pub count-more : (k : ℕ) (s : List ℕ) (n : ℕ) → count_below k s (n + 1) ≡ count_below k s n + cond (eqb (kind_of s n) k) (count_of s n) 0
unfolding count_below
count-more k s n = rw add-one

-- a kind's first block, by the counts: one kind more
pub first_next : (k : ℕ) (c : Counts) → 1 ≤ k → first_block (k + 1) c ≡ first_block k c + blocks_for (count_in c k)
unfolding first_block
first_next zero c h = absurd (omega arith)
first_next (suc k) c h = rw (add-one (suc k))

pub first_one : (c : Counts) → first_block 1 c ≡ 0
unfolding first_block
first_one c = refl
