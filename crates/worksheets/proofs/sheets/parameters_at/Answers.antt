use Prim.Native.Nat.{ℕ}
use mathlib.Core.Path.{◌≡◌, ap, ◌∙◌}
use Rattle.form.specs.Layout.{row_from}
use Rattle.worksheets.specs.declared.sheets.Parameters.{Parameters}
use Rattle.worksheets.proofs.sheets.parameters_at.Goals as goal

abbrev six : ℕ → ℕ → ℕ → ℕ → ℕ → ℕ → Parameters
six n h c r o x = record { n = n; ch4 = h; co = c; nc = r; n2o = o; nox = x }

-- six parameters, each by its equal
six_same : {n n' h h' c c' r r' o o' x x' : ℕ} → n ≡ n' → h ≡ h' → c ≡ c' → r ≡ r' → o ≡ o' → x ≡ x' → six n h c r o x ≡ six n' h' c' r' o' x'
six_same {n} {n'} {h} {h'} {c} {c'} {r} {r'} {o} {o'} {x} {x'} en eh ec er eo ex =
    ap (λ (y : ℕ). six y h c r o x) en
    ∙ ap (λ (y : ℕ). six n' y c r o x) eh
    ∙ ap (λ (y : ℕ). six n' h' y r o x) ec
    ∙ ap (λ (y : ℕ). six n' h' c' y o x) er
    ∙ ap (λ (y : ℕ). six n' h' c' r' y x) eo
    ∙ ap (λ (y : ℕ). six n' h' c' r' o' y) ex

pub returns : goal.returns
unfolding row_from
returns c =
    six_same c.two_at.ensures.0 c.two_at-2.ensures.0 c.two_at-3.ensures.0 c.two_at-4.ensures.0 c.two_at-5.ensures.0 c.two_at-6.ensures.0
