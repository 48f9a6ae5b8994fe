-- The lines of a return have those of its cleared biomass in a row, as the national line and an explanation do. Assumes nothing.
use Prim.Native.Nat.{ℕ, zero, suc, ◌+◌}
use mathlib.Core.Path.{◌≡◌, refl, sym, ap, ◌∙◌}
use mathlib.Core.List.{List, [], ◌∷◌, ◌++◌, append_assoc, flat_map}
use lib.ListN.{take, drop}
use Rattle.wide.specs.Signs.{amount}
use Rattle.matter.specs.declared.Matter.{Matter}
use Rattle.phrases.specs.Lines.{lines_text, spaces}
use Rattle.phrases.proofs.Filled.{filled-flat, filled-text}
use Rattle.fates.specs.Fates.{matter_lines, matter_text}
use Rattle.listed.specs.Listed.{Figure, figure, listed}
use Rattle.worksheets.specs.declared.sheets.Figures.{Figures}
use Rattle.phrases.specs.Ascii.{codes}
use Rattle.report.specs.Lines.{line_of, lines_of}

-- how many figures come before the five
abbrev pub masses_at : ℕ
masses_at = 28

-- the lines of the first n figures, and of the others
split : (n : ℕ) (fs : List Figure) → flat_map line_of fs ≡ flat_map line_of (take n fs) ++ flat_map line_of (drop n fs)
unfolding flat_map
split zero fs = refl
split (suc n) [] = refl
split (suc n) (f ∷ fs) = ap (λ (x : List ℕ). line_of f ++ x) (split n fs) ∙ sym (append_assoc (line_of f) (flat_map line_of (take n fs)) (flat_map line_of (drop n fs)))

-- the five figures
abbrev mass_figures : Matter → List Figure
mass_figures m =
    figure (codes "oxidised_onsite") m.onsite.oxidised.0
    ∷ figure (codes "charcoal_onsite") m.onsite.charcoal.0
    ∷ figure (codes "oxidised_offsite") m.offsite.oxidised.0
    ∷ figure (codes "charcoal_offsite") m.offsite.charcoal.0
    ∷ figure (codes "unburned") m.unburned.0
    ∷ []

clear : (m : Matter) → spaces (flat_map (λ (x : Figure). x.name) (mass_figures m)) ≡ 0
unfolding spaces flat_map
clear m = refl

masses-lines : (m : Matter) → flat_map line_of (mass_figures m) ≡ matter_text m
unfolding lines_text matter_lines
masses-lines m =
    sym (filled-flat (λ (x : Figure). x.name) (λ (x : Figure). amount x.value) (mass_figures m) (clear m))
    ∙ filled-text (λ (x : Figure). x.name) (λ (x : Figure). amount x.value) (mass_figures m) (clear m)

five_behind : (f : Figures) → drop masses_at (listed f) ≡ mass_figures f.matter ++ drop (masses_at + 5) (listed f)
unfolding listed
five_behind f = refl

pub lines_have : (f : Figures) → lines_of f ≡ flat_map line_of (take masses_at (listed f)) ++ (matter_text f.matter ++ flat_map line_of (drop (masses_at + 5) (listed f)))
lines_have f =
    let behind = flat_map line_of (drop (masses_at + 5) (listed f)) in
    split masses_at (listed f)
    ∙ ap (λ (x : List ℕ). flat_map line_of (take masses_at (listed f)) ++ x) (
    ap (flat_map line_of) (five_behind f)
    ∙ split 5 (mass_figures f.matter ++ drop (masses_at + 5) (listed f))
    ∙ ap (λ (x : List ℕ). x ++ behind) (masses-lines f.matter)
    )
