-- What the heaviest row of an accepted return is, said of the rows themselves and of no way to find it.
use Rattle.std.specs.Prelude.{ℕ, ◌<◌, ◌≤◌, ◌≡◌, ◌↔◌, List, [], length, get_or}
use Rattle.form.specs.Records.{id_of}
use Rattle.form.specs.Verdict.{rows}
use Rattle.form.specs.Sums.{sum_of}
use Rattle.heaviest.specs.declared.Weight.{Weight}

-- one of some rows has this id and, by f, this part
pub record OneOf (rs : List (List ℕ)) (f : List ℕ → ℕ) (w : Weight) : Type 0 where
  pub index : ℕ
  pub there : index < length rs
  pub its_id : id_of (get_or rs index []) ≡ w.id
  pub its_part : f (get_or rs index []) ≡ w.part

-- w is the heaviest conversion row of s, where f is a row's part in a subtotal: "the row with the largest exact part, the lower id on a tie, 'none' where the
-- subtotal is zero"
pub record Weighs (s : List ℕ) (f : List ℕ → ℕ) (w : Weight) : Type 0 where
  -- a part that is not 0 is that of a row, with its id
  pub is_row : 0 < w.part → OneOf (rows 1 s) f w
  -- no row has a larger part
  pub largest : (i : ℕ) → i < length (rows 1 s) → f (get_or (rows 1 s) i []) ≤ w.part
  -- no row with the same part has a lower id
  pub lowest_id : (i : ℕ) → i < length (rows 1 s) → f (get_or (rows 1 s) i []) ≡ w.part → w.id ≤ id_of (get_or (rows 1 s) i [])
  -- the part is 0, and no row is named, just where the subtotal is zero
  pub none_at_zero : (w.part ≡ 0) ↔ (sum_of f (rows 1 s) ≡ 0)
