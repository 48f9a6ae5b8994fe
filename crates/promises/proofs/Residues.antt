-- Two accepted returns that differ only in crop rows and what these force (specs/Residues).
use Rattle.std.specs.Prelude.{ℕ, ◌≡◌, List, Ok}
use Rattle.form.specs.Verdict.{verdict_of}
use Rattle.form.specs.declared.Counts.{Counts}
use Rattle.promises.specs.Residues.{DifferInCrops, alike-rows, other_sheets_same, doubles_same, heaviest_same, SameButForCrops}

pub crops_alone : (s t : List ℕ) (c d : Counts) → verdict_of s ≡ Ok c → verdict_of t ≡ Ok d → DifferInCrops s t → SameButForCrops s t
crops_alone s t c d one other alike =
    let h = alike-rows s t alike in
    record { sheets = other_sheets_same s t h; doubles = doubles_same s t h c d one other; heaviest = heaviest_same s t h c d one other }
