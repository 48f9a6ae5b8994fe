-- The five lines: the names filled in with the numbers, and how long they are. Assumes nothing.
--     names_few, matter-filled     what `put_lines` asks, and that it writes the lines
--     matter-short                 how long they are
use Prim.Native.Nat.{ℕ, ◌+◌, ◌^◌, ◌≤◌}
use mathlib.Core.Path.{◌≡◌, ap}
use mathlib.Core.List.{List, [], ◌∷◌}
use native.Mathlib.Omega.{arith}
use lib.IntN.{ℤ}
use lib.ListN.{length, length-append}
use Rattle.wide.specs.Numbers.{value}
use Rattle.totals.specs.declared.DryMatter.{DryMatter}
use Rattle.decimal.proofs.DigitLaws.{decimal-length}
use Rattle.matter.specs.Matter.{MatterMost}
use Rattle.matter.specs.declared.Matter.{Matter}
use Rattle.phrases.specs.Ascii.{codes}
use Rattle.phrases.specs.Lines.{Line, lines_text, spaces, filled_in, unsigned}
use Rattle.fates.specs.Fates.{mass_line, matter_lines, matter_text, matter_room}

-- the names, each with a space behind it, as they stand in the code
abbrev pub matter_names : List ℕ
matter_names = codes "oxidised_onsite charcoal_onsite oxidised_offsite charcoal_offsite unburned "

-- what the masses come to, in the order of the lines
abbrev pub masses : Matter → List ℤ
masses m =
    unsigned (value m.onsite.oxidised.0 ∷ value m.onsite.charcoal.0 ∷ value m.offsite.oxidised.0 ∷ value m.offsite.charcoal.0 ∷ value m.unburned.0 ∷ [])

pub matter-filled : (m : Matter) {vs : List ℤ} → vs ≡ masses m → filled_in matter_names vs ≡ matter_text m
unfolding filled_in lines_text matter_lines
matter-filled m e = ap (filled_in matter_names) e

pub names_few : spaces matter_names ≤ 5
unfolding spaces
names_few = omega arith

-- a line of at most 25 digits
line-short : (name : List ℕ) (mass : DryMatter) (ls : List Line) {n : ℕ} → value mass.0 ≤ 2 ^ 80 → length (lines_text ls) ≤ n
    → length (lines_text (mass_line name mass ∷ ls)) ≤ length name + 27 + n
unfolding lines_text
line-short name mass ls h l = simp length-append (omega (arith, h, l, decimal-length 24 (value mass.0) (omega (arith, h))))

none_short : length (lines_text []) ≤ 0
unfolding lines_text
none_short = omega arith

pub matter-short : (m : Matter) → MatterMost (2 ^ 80) m → length (matter_text m) ≤ matter_room
unfolding matter_lines
matter-short m p =
    line-short (codes "oxidised_onsite") m.onsite.oxidised _ p.onsite.0
    (line-short (codes "charcoal_onsite") m.onsite.charcoal _ p.onsite.1
    (line-short (codes "oxidised_offsite") m.offsite.oxidised _ p.offsite.0
    (line-short (codes "charcoal_offsite") m.offsite.charcoal _ p.offsite.1
    (line-short (codes "unburned") m.unburned [] p.unburned none_short))))
