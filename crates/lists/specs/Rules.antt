-- "Writing: 10, then 5 to 9": the rules of the row lists alone, 10 by kind, and those of filed records where the records would stand: 5, 6, 14 and 7, then those that add rows up.
use Rattle.std.specs.Prelude.{ℕ, zero, suc, ◌+◌, ◌-◌, ◌%◌, ◌≤◌, ◌<◌, ◌≡◌, Bool, not, ◌&&◌, ◌||◌, List, [], ◌∷◌, length, get_or, ltb, eqb, None, Option, Some}
use Rattle.form.specs.Layout.{kinds, parameters_kind, numbers_of}
use Rattle.form.specs.Edition.{last_kind, known}
use Rattle.form.specs.Ruling.{Rule, rule}
use Rattle.form.specs.First.{first}
use Rattle.form.specs.Records.{Filed, test_of}
use Rattle.form.specs.Sums.{filed_rules}
use Rattle.filing.specs.Lists.{cut, total, rows_in, blocks_of, filed_lists}

-- 10: "a row list is no whole number of rows, has more than 32, or the parameters aren't exactly one row", by how many numbers it has
unfoldable pub bad_list : ℕ → ℕ → Bool
bad_list kind n =
    not (eqb (n % numbers_of kind) 0)
    || ltb 32 (rows_in kind n)
    || (eqb kind parameters_kind && not (eqb (rows_in kind n) 1))

-- lengths that are not one for each kind, or do not add up to an area of m numbers: no list may be dropped in silence
unfoldable pub bad_lengths : List ℕ → ℕ → Bool
bad_lengths lengths m = not (eqb (length lengths) kinds) || not (eqb (total lengths) m)

-- §1: "for rows above kind 4 in edition 1": a list of n numbers, of a kind that the edition does not have
unfoldable pub not_allowed : ℕ → ℕ → ℕ → Bool
not_allowed edition kind n = ltb (last_kind edition) kind && not (eqb n 0)

-- 10 by its place: 0 for "an unknown edition", which 3 no longer is, and the lengths, then the kinds
abbrev pub bad_at : ℕ → List ℕ → ℕ → ℕ → Bool
bad_at edition lengths m zero = not (known edition) || bad_lengths lengths m
bad_at edition lengths m (suc k) = not_allowed edition (suc k) (get_or lengths k 0) || bad_list (suc k) (get_or lengths k 0)

unfoldable pub list_rules : ℕ → List ℕ → List ℕ → List Rule
list_rules edition lengths area = rule 10 (suc kinds) (bad_at edition lengths (length area)) ∷ filed_rules edition (filed_lists (cut lengths area))

-- ---- as the code has them

-- at most 32 rows of each kind
abbrev pub FewRows : List ℕ → Type 0
FewRows lengths = (k : ℕ) → k < kinds → rows_in (suc k) (get_or lengths k 0) ≤ 32

-- what 10 has found
pub record Good (lengths : List ℕ) (m : ℕ) : Type 0 where
  pub each : length lengths ≡ kinds
  pub all : total lengths ≡ m
  pub whole : (k : ℕ) → k < kinds → get_or lengths k 0 % numbers_of (suc k) ≡ 0
  pub few : FewRows lengths
  pub one : rows_in parameters_kind (get_or lengths (parameters_kind - 1) 0) ≡ 1

-- the blocks that lists of these lengths take, from a kind on
unfoldable pub blocks_from : ℕ → List ℕ → ℕ
blocks_from k [] = 0
blocks_from k (n ∷ ns) = blocks_of k n + blocks_from (suc k) ns

-- the lowest place that breaks the rule with a number
abbrev pub first_of : ℕ → ℕ → Filed → Option ℕ
first_of n edition f = first (test_of n edition f) f.places

-- a spot among places that begin at n
abbrev pub shifted : ℕ → Option ℕ → Option ℕ
shifted n (Some i) = Some (n + i)
shifted n None = None
