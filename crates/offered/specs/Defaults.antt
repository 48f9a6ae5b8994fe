-- "The workbook's default ratios stand with the parameter type itself .. offered to callers and never put in unasked."
use Rattle.std.specs.Prelude.{List, [], ◌∷◌, ℕ, Err}
use Rattle.form.specs.Ruling.{too_short, on_front, ruling}
use Rattle.form.specs.Refusals.{Clean, Ruling}
use Rattle.worksheets.specs.Sheets.{standard, parameter_numbers}

-- 9, place 0, where the room has fewer than the six numbers of a parameter row
abbrev pub defaults_call : List ℕ → Ruling
defaults_call room = ruling (too_short 6 room ∷ [])

-- the room afterwards: the default row at the front, or as it was
abbrev pub defaults_after : List ℕ → Ruling → List ℕ
defaults_after room Clean = on_front (parameter_numbers standard) room
defaults_after room (Err r) = room
