-- The three doubles of one row, and one row more: what the code's steps answer.
use Rattle.std.specs.Prelude.{List, ℕ, ◌+◌, Float}
use Rattle.std.specs.Float.{binary64}
use Rattle.std.specs.Float.Ieee.{add}
use Rattle.form.specs.Bytes.{number}
use Rattle.doubles.specs.Subtotals.{part_of, onsite_double, offsite_double, decay_double}
use Rattle.doubles.specs.declared.Doubles.{Doubles}

-- the part whose fraction, oxidised and carbon fraction stand from `at` on in s
abbrev pub burnt_of : List ℕ → ℕ → ℕ → ℕ → Float
burnt_of s at area difference = part_of area difference (number 2 s at) (number 2 s (at + 2)) (number 2 s (at + 4))

abbrev pub double_parts_of : List ℕ → Doubles
double_parts_of r = record { onsite = onsite_double r; offsite = offsite_double r; decay = decay_double r }

abbrev pub plus_of : Doubles → Doubles → Doubles
plus_of t p = record {
  onsite = add binary64 t.onsite p.onsite;
  offsite = add binary64 t.offsite p.offsite;
  decay = add binary64 t.decay p.decay;
}
