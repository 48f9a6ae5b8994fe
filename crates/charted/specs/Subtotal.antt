-- A subtotal from C, for the charting program. "1 to 8 (from C, then 11 and last 9)."
use Rattle.std.specs.Prelude.{ℕ, List, [], ◌∷◌, ◌++◌, Float, Err}
use Rattle.std.specs.Float.{binary64}
use Rattle.std.specs.Float.Ieee.{to_bits}
use Rattle.form.specs.Ruling.{Rule, too_short, on_front, ruling}
use Rattle.form.specs.Bytes.{little_endian}
use Rattle.form.specs.Verdict.{rules, rows}
use Rattle.form.specs.Refusals.{Clean, Ruling}
use Rattle.totals.specs.Codes.{by_code, wrong_code}
use Rattle.doubles.specs.Subtotals.{subtotals_of}
use Rattle.doubles.specs.declared.Doubles.{Doubles}

-- 11 for "a subtotal's code above 2", after the return's rules and before the room for eight bytes
abbrev pub subtotal_rules : List ℕ → ℕ → List ℕ → List Rule
subtotal_rules s code room = rules s ++ (wrong_code code ∷ too_short 8 room ∷ [])

abbrev pub subtotal_call : List ℕ → ℕ → List ℕ → Ruling
subtotal_call s code room = ruling (subtotal_rules s code room)

-- the double that a code names
abbrev pub double_by : ℕ → Doubles → Float
double_by code d = by_code code d.onsite d.offsite d.decay

-- "the first eight bytes of that room then hold the double's bits, little-endian"
abbrev pub bits_after : List ℕ → ℕ → List ℕ → Ruling → List ℕ
bits_after s code room Clean = on_front (little_endian 8 (to_bits binary64 (double_by code (subtotals_of (rows 1 s))))) room
bits_after s code room (Err r) = room

-- after the call
abbrev pub bits_told : List ℕ → ℕ → List ℕ → List ℕ
bits_told s code room = bits_after s code room (subtotal_call s code room)
