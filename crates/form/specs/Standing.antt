-- Where the rows of a kind stand in an accepted return: one after the other, from the place that the counts give.
use Rattle.std.specs.Prelude.{ℕ, zero, suc, ◌+◌, ◌*◌, ◌/◌, List, [], ◌∷◌}
use Rattle.form.specs.Records.{Filed}
use Rattle.form.specs.Verdict.{row_count, count_in}
use Rattle.form.specs.declared.Counts.{Counts}

-- the blocks that some rows take, twelve to a block
abbrev pub blocks_for : ℕ → ℕ
blocks_for r = (r + 11) / 12

-- the first block of a kind: the blocks of the kinds before it, from 1 on, come first
unfoldable pub start_block : ℕ → List ℕ → ℕ
start_block zero s = 0
start_block (suc zero) s = 0
start_block (suc (suc k)) s = start_block (suc k) s + blocks_for (row_count (suc k) s)

-- the same, by the counts
unfoldable pub first_block : ℕ → Counts → ℕ
first_block zero c = 0
first_block (suc zero) c = 0
first_block (suc (suc k)) c = first_block (suc k) c + blocks_for (count_in c (suc k))

-- and its first place
abbrev pub start_place : ℕ → List ℕ → ℕ
start_place k s = 12 * start_block k s

-- the rows at n places, from place j on
unfoldable pub rows_from : Filed → ℕ → ℕ → List (List ℕ)
rows_from f j zero = []
rows_from f j (suc n) = f.row j ∷ rows_from f (suc j) n
