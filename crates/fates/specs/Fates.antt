-- §13: what became of the cleared biomass, in lines: the national line and the explaining tool "print all five", by the same names in the same order as `sheets`.
use Rattle.std.specs.Prelude.{ℕ, List, [], ◌∷◌}
use Rattle.wide.specs.Numbers.{value}
use Rattle.totals.specs.declared.DryMatter.{DryMatter}
use Rattle.matter.specs.declared.Matter.{Matter}
use Rattle.phrases.specs.Ascii.{codes}
use Rattle.phrases.specs.Lines.{Line, number_line, lines_text}

abbrev pub mass_line : List ℕ → DryMatter → Line
mass_line name mass = number_line name (value mass.0)

unfoldable pub matter_lines : Matter → List Line
matter_lines m =
    mass_line (codes "oxidised_onsite") m.onsite.oxidised
    ∷ mass_line (codes "charcoal_onsite") m.onsite.charcoal
    ∷ mass_line (codes "oxidised_offsite") m.offsite.oxidised
    ∷ mass_line (codes "charcoal_offsite") m.offsite.charcoal
    ∷ mass_line (codes "unburned") m.unburned
    ∷ []

abbrev pub matter_text : Matter → List ℕ
matter_text m = lines_text (matter_lines m)

-- room that is always enough for it: 70 letters, and for each line a space, at most 25 digits and a line feed
abbrev pub matter_room : ℕ
matter_room = 205
