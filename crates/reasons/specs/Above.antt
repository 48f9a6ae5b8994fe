-- §7: "the field and its limit": the first field of a row above its limit.
use Rattle.std.specs.Prelude.{ℕ, suc, ◌<◌, ◌≤◌, ◌≡◌, cond, List, [], ◌∷◌, length, get_or, drop, ltb}
use Rattle.form.specs.Layout.{Layout, field_at}
use Rattle.reasons.specs.declared.row_reasons.Above.{Above}

abbrev pub above : ℕ → ℕ → ℕ → Above
above i v l = record { field = i; value = v; limit = l }

-- the fields of a layout, of which the first is number i, and a row's numbers from there on; a row without such a field is given no number (`above_there`)
unfoldable pub above_from : ℕ → Layout → List ℕ → Above
above_from i [] r = above i 0 0
above_from i (f ∷ l) r = cond (ltb f.limit (get_or r 0 0)) (above i (get_or r 0 0) f.limit) (above_from (suc i) l (drop 1 r))

-- what is said of a row by the first field above its limit: it is one, its value and its limit are its own, and no field before it is above its limit
pub record FirstAbove (l : Layout) (r : List ℕ) (a : Above) : Type 0 where
  pub field_there : a.field < length l
  pub value_there : a.value ≡ get_or r a.field 0
  pub limit_there : a.limit ≡ (field_at l a.field).limit
  pub too_high : a.limit < a.value
  pub first : (j : ℕ) → j < a.field → get_or r j 0 ≤ (field_at l j).limit
