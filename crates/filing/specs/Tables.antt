-- The layouts by number, as the code asks for them.
use Rattle.std.specs.Prelude.{ℕ, ◌/◌, ◌%◌, List}
use Rattle.form.specs.Layout.{layout, row_at}
use Rattle.form.specs.Block.{record_at}

-- the row of the record at a place, read as one of a kind
unfoldable pub row_on : ℕ → List ℕ → ℕ → List ℕ
row_on kind s j = row_at (layout kind) s (record_at (j / 12) (j % 12))
