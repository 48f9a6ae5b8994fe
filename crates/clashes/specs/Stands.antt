-- Which row of the lists stands at a place: its kind, its numbers in the area, and how many rows stand before it. Assumes nothing.
use Rattle.std.specs.Prelude.{ℕ, suc, ◌+◌, ◌-◌, ◌*◌, ◌<◌, ◌≤◌, ◌≡◌, cond, List, [], ◌∷◌, length, take, drop, ltb}
use Rattle.form.specs.Layout.{kinds, numbers_of}
use Rattle.filing.specs.Lists.{cut, rows_in, blocks_of, filed_lists}
use Rattle.clashes.specs.declared.Whereabouts.{Whereabouts}

-- the rows before the one at a place, of lists of these lengths, from a kind on: those of the kinds before, and as many of its own as places before it.
-- A list of n numbers has its rows at the first places of its blocks. What is counted are the used places before (`Index.index-used`)
unfoldable pub index_from : ℕ → List ℕ → ℕ → ℕ
index_from k [] p = 0
index_from k (n ∷ ns) p = cond (ltb p (12 * blocks_of k n)) p (rows_in k n + index_from (suc k) ns (p - 12 * blocks_of k n))

abbrev pub row_index : List ℕ → ℕ → ℕ
row_index lengths p = index_from 1 lengths p

-- a row is there, of a kind that there is, with its numbers in the area
pub record Stands (lengths area : List ℕ) (p : ℕ) (w : Whereabouts) : Type 0 where
  pub kind_there : w.kind ≡ (filed_lists (cut lengths area)).kind p
  pub known-kind : (0 < w.kind) × (w.kind ≤ kinds)
  pub inside : w.from + numbers_of w.kind ≤ length area
  pub row_there : take (numbers_of w.kind) (drop w.from area) ≡ (filed_lists (cut lengths area)).row p
  pub index_there : w.index ≡ row_index lengths p
  -- at most 32 of each kind
  pub few_before : w.index < 32 * kinds
