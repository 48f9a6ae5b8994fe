-- What the rows of a kind add up to, whatever is made of each.
use Rattle.std.specs.Prelude.{◌≡◌, ℕ, ◌+◌, ◌≤◌, ◌<◌, List, [], ◌∷◌, length, get_or, false}
use Rattle.form.specs.Layout.{layout, row_at, above_limit}
use Rattle.form.specs.Verdict.{rows}

-- a row of the kind starts at a byte: all of it is there, and it is not above its limits
pub record RowAt (kind : ℕ) (s : List ℕ) (at : ℕ) : Type 0 where
  pub inside : at + 40 ≤ length s
  pub kept : above_limit (layout kind) (row_at (layout kind) s at) ≡ false
  pub place : ℕ
  pub there : place < length (rows kind s)
  pub row : get_or (rows kind s) place [] ≡ row_at (layout kind) s at

-- rows added to what there is, one by one and in order
unfoldable pub added : {T : Type 0} → (T → T → T) → (List ℕ → T) → T → List (List ℕ) → T
added both part t [] = t
added both part t (r ∷ rs) = added both part (both t (part r)) rs

-- from nothing on
abbrev pub added_up : {T : Type 0} → T → (T → T → T) → (List ℕ → T) → List (List ℕ) → T
added_up none both part rs = added both part none rs
