use Rattle.std.proofs.Common.{refl, sym, ap, ◌∙◌, ◌≡◌, [], rules, arith}
use mathlib.Core.Logic.{⊎_elim}
use Rattle.heads.specs.declared.Fault.{Fault}
use Rattle.phrases.specs.Ascii.{codes}
use Rattle.phrases.specs.Lines.{lines_text, spaces}
use Rattle.phrases.proofs.LineTexts.{as_text, two_text}
use Rattle.objections.specs.Objections.{told_lines}
use Rattle.objections.proofs.LineTexts.{nothing_put}
use Rattle.objections.proofs.told.put_told.Goals as goal

pub put_two-requires : goal.put_two-requires
unfolding spaces
put_two-requires c = search rules

pub returns-in-Fields : goal.returns-in-Fields
unfolding spaces
returns-in-Fields c =
    let f = c.in-Fields in (
      as_text (ap (λ x. lines_text (told_lines x)) (sym f.is)) (as_text (two_text (codes "due") (codes "found") f.due f.found refl) c.put_two.ensures.0),
      omega (arith, c.put_two.ensures.1),
    )

pub returns-in-Long : goal.returns-in-Long
returns-in-Long c =
    let a = c.args in
    let none : (f : Fault) → a.fault ≡ f → told_lines f ≡ [] → [] ≡ told_lines a.fault = λ f e h. sym (ap told_lines e ∙ h) in
    let nothing : [] ≡ told_lines a.fault =
    ⊎_elim (λ e. none _ e refl) (⊎_elim (λ e. none _ e refl) (⊎_elim (λ e. none _ e refl) (⊎_elim (λ e. none _ e refl) (λ e. none _ e refl)))) c.in-Long.is in
    (nothing_put a.out.now a.at (told_lines a.fault) nothing, omega arith)
