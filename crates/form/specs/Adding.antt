-- §4: "Departments verify a block's check on an adding sheet: from offset 507 down to 0 they keep a running sum of the bytes, and they add up those running sums."
use Rattle.std.specs.Prelude.{ℕ, zero, suc, ◌+◌, ◌-◌, ◌*◌, List}
use Rattle.form.specs.Bytes.{byte_at}

-- a line of the sheet: the running sum, and the total of the running sums so far
pub record AddingLine : Type 0 where
  pub running : ℕ
  pub total : ℕ

-- the next line: the byte is added to the running sum, and then the running sum to the total
abbrev pub next_line : AddingLine → ℕ → AddingLine
next_line l byte = record { running = l.running + byte; total = l.total + (l.running + byte) }

-- the sheet of block b after n bytes: the first is the one at offset 507, and the last of all 508 the one at offset 0
unfoldable pub sheet_after : List ℕ → ℕ → ℕ → AddingLine
sheet_after s b zero = record { running = 0; total = 0 }
sheet_after s b (suc n) = next_line (sheet_after s b n) (byte_at s (512 * b + (507 - n)))
