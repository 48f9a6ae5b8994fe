use Rattle.std.proofs.Common.{◌≡◌, ℕ, ◌+◌, ◌*◌, ◌/◌, ◌%◌, ◌^◌, ◌<◌, sym, ap, ◌∙◌, ap₂, mod-lt, div-le_self, arith}
use Rattle.wide.specs.Numbers.{value}
use Rattle.wide.specs.Rounding.{settled}
use Rattle.wide.proofs.Laws.{is_as, value_low}
use Rattle.wide.proofs.rounding.rounded.Goals as goal

-- The divisor is the factors' product, and one more than the quotient has room. Assumes nothing.
settled_same : {q q' r r' d d' : ℕ} → q ≡ q' → r ≡ r' → d ≡ d' → settled q r d ≡ settled q' r' d'
settled_same e f g = cc

-- the rule has room for any quotient and rest
room : (x d : ℕ) → 0 < d → d < 2 ^ 96 → x + 1 < 2 ^ 120 → (q r : ℕ) → q ≡ x / d → r ≡ x % d → (q + 1 < 2 ^ 120) × (r + r < 2 ^ 120)
room x d h f g q r e i = (omega (arith, div-le_self x d), omega (arith, mod-lt x h))

pub returns-then-x-eq0 : goal.returns-then-x-eq0
returns-then-x-eq0 c =
    let w = c.divide_word-w.ensures in
    let x = c.args.x in
    let l = value_low x c.if-x-eq0.true in
    is_as c.settle.ensures
    (settled_same
    (w.0.number ∙ ap₂ (λ (m n : ℕ). m / n) (sym l) (let divisor' : let a = c.args in value c.times-d.result ≡ a.a * a.b * a.c = c.times-d.ensures.number ∙ ap (λ (n : ℕ). n * c.args.c) c.of.ensures.number in divisor'))
    (w.1.number ∙ ap₂ (λ (m n : ℕ). m % n) (sym l) (let divisor' : let a = c.args in value c.times-d.result ≡ a.a * a.b * a.c = c.times-d.ensures.number ∙ ap (λ (n : ℕ). n * c.args.c) c.of.ensures.number in divisor'))
    (let divisor' : let a = c.args in value c.times-d.result ≡ a.a * a.b * a.c = c.times-d.ensures.number ∙ ap (λ (n : ℕ). n * c.args.c) c.of.ensures.number in divisor'))
