-- §10: "a file of returns end to end, up to 500, each cut by the number of blocks in its first header", and where the cutting stops. Assumes nothing.
use Rattle.std.specs.Prelude.{ℕ, zero, suc, ◌*◌, ◌≤◌, ◌≡◌, cond, ◌||◌, List, [], ◌∷◌, ◌++◌, length, take, drop, eqb, ltb, Option, None, Some, Result, Ok, Err}
use Rattle.form.specs.Block.{most_blocks, blocks_said}
use Rattle.cutting.specs.declared.Stop.{Stop}
use Rattle.cutting.specs.declared.Stop.TheVariants.{Whole, Blocks, Short, Many}

-- "up to 500"
abbrev pub most_returns : ℕ
most_returns = 500

-- how many bytes a return of so many blocks has, where a return has so many
abbrev pub size_said : ℕ → Option ℕ
size_said n = cond (eqb n 0 || ltb most_blocks n) None (Some (512 * n))

-- "a first header that says 0 blocks or more than 16", which with §14 is 22, the most a return has, "or a file that ends inside a return": by the number that it says, and how many bytes are left
unfoldable pub sized_by : ℕ → ℕ → Result ℕ Stop
sized_by n left = cond (eqb n 0 || ltb most_blocks n) (Err (Blocks n)) (cond (ltb left (512 * n)) (Err Short) (Ok (512 * n)))

-- what comes next in the bytes that are left, where a return is allowed: a file that ends inside the first six bytes ends inside a return too
unfoldable pub next_of : List ℕ → Result ℕ Stop
next_of s = cond (eqb (length s) 0) (Err Whole) (cond (ltb (length s) 6) (Err Short) (sized_by (blocks_said s 0) (length s)))

-- and where none is: "a 501st return does the same", any byte of it
unfoldable pub end_of : List ℕ → Stop
end_of s = cond (eqb (length s) 0) Whole Many

-- by how many returns were taken before
abbrev pub next_after : ℕ → List ℕ → Result ℕ Stop
next_after taken s = cond (ltb taken most_returns) (next_of s) (Err (end_of s))

-- the returns in their order, and why the run goes no further
pub record Cut : Type 0 where
  pub returns : List (List ℕ)
  pub stop : Stop

abbrev pub stopped_by : Stop → Cut
stopped_by w = record { returns = []; stop = w }

abbrev pub behind : List ℕ → Cut → Cut
behind r c = record { returns = r ∷ c.returns; stop = c.stop }

-- by what comes next, and what is cut behind a return of n bytes
abbrev pub cut_by : List ℕ → Result ℕ Stop → (ℕ → Cut) → Cut
cut_by s (Ok n) more = behind (take n s) (more n)
cut_by s (Err w) more = stopped_by w

-- a file of which so many returns are still allowed
unfoldable pub cut_from : ℕ → List ℕ → Cut
cut_from zero s = stopped_by (end_of s)
cut_from (suc k) s = cut_by s (next_of s) (λ n. cut_from k (drop n s))

-- a whole file
abbrev pub cut_file : List ℕ → Cut
cut_file s = cut_from most_returns s

-- ---- as a program reads it, a return at a time

-- how many bytes settle what comes next, for one who has the first six: the blocks that the header says, or just these six where no return has so many
unfoldable pub wanted_by : ℕ → ℕ
wanted_by n = cond (eqb n 0 || ltb most_blocks n) 6 (512 * n)

unfoldable pub wanted_of : List ℕ → ℕ
wanted_of s = cond (ltb (length s) 6) 6 (wanted_by (blocks_said s 0))

-- ---- files made of returns

-- a piece as long as its own first header says
pub record Piece (r : List ℕ) : Type 0 where
  pub some : 1 ≤ blocks_said r 0
  pub few : blocks_said r 0 ≤ most_blocks
  pub long : length r ≡ 512 * blocks_said r 0

unfoldable pub Pieces : List (List ℕ) → Type 0
Pieces [] = Unit {0}
Pieces (r ∷ rs) = Piece r × Pieces rs

-- "end to end"
unfoldable pub end_to_end : List (List ℕ) → List ℕ
end_to_end [] = []
end_to_end (r ∷ rs) = r ++ end_to_end rs
