use Prim.Native.Nat.{ℕ, ◌+◌}
use mathlib.Core.Path.{◌≡◌, ap₂, ◌∙◌}
use mathlib.Core.Bool.{cond}
use Rattle.form.specs.Layout.{row_from}
use Rattle.form.specs.Records.{thinner}
use Rattle.totals.specs.Columns.{thinner_part}
use Rattle.totals.proofs.thinner_at.Goals as goal

-- a period, and by its equals
abbrev counted : ℕ → ℕ → ℕ
counted b a = cond (thinner b a) 1 0

period : {b b' a a' : ℕ} → b ≡ b' → a ≡ a' → counted b a ≡ counted b' a'
period e f = ap₂ (λ (b a : ℕ). counted b a) e f

pub returns : goal.returns
unfolding thinner_part row_from
returns c =
    ap₂ (λ (x y : ℕ). x + y)
    (c.thinner_period-one.ensures.0 ∙ period c.two_at.ensures.0 c.two_at-2.ensures.0)
    (c.thinner_period-ten_years.ensures.0 ∙ period c.two_at-3.ensures.0 c.two_at-4.ensures.0)
