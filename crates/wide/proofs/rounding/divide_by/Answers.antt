use Rattle.std.proofs.Common.{◌≡◌, ℕ, ◌+◌, ◌*◌, ◌/◌, ◌%◌, ◌^◌, ◌<◌, mod-lt, arith}
use Rattle.wide.specs.Numbers.{value, Is}
use Rattle.wide.specs.declared.Wide.{Wide}
use Rattle.wide.proofs.Laws.{is_as, factors, product_small, digits_product, quotient_thrice, rest_thrice}
use Rattle.wide.proofs.rounding.divide_by.Goals as goal

-- Three divisions by a factor are one by the product. Assumes nothing.
-- what three quotients and rests are together, and that the rests have room
record Together (x a b c q r₁ r₂ r₃ : ℕ) : Type 0 where
  quotient : q ≡ x / (a * b * c)
  rest : (r₃ * b + r₂) * a + r₁ ≡ x % (a * b * c)
  upper : r₃ * b + r₂ < 2 ^ 64
  whole : x % (a * b * c) < 2 ^ 96

together : (x a b c q₁ r₁ q₂ r₂ q₃ r₃ : ℕ) → 0 < a * b * c → a < 2 ^ 32 → b < 2 ^ 32 → c < 2 ^ 32
    → (q₁ ≡ x / a) × (r₁ ≡ x % a) → (q₂ ≡ q₁ / b) × (r₂ ≡ q₁ % b) → (q₃ ≡ q₂ / c) × (r₃ ≡ q₂ % c) → Together x a b c q₃ r₁ r₂ r₃
together x a b c q₁ r₁ q₂ r₂ q₃ r₃ h ha hb hc e f g =
    let p = factors a b c h in
    record {
      quotient = cc (e.0, f.0, g.0, quotient_thrice x a b c);
      rest = cc (e.0, e.1, f.0, f.1, g.1, rest_thrice x a b c p.0 p.1 p.2);
      upper = omega (arith, f.1, g.1, mod-lt q₁ p.1, mod-lt q₂ p.2, digits_product r₃ b (omega (arith, g.1, mod-lt q₂ p.2)) hb);
      whole = omega (arith, mod-lt x h, product_small a b c ha hb hc);
    }

numbers : {w : Wide} {m n r : ℕ} → Is w m × (r ≡ n) → (value w ≡ m) × (r ≡ n)
numbers h = (h.0.number, h.1)

pub returns : goal.returns
returns c =
    let t = (let all' : let s = c.args in Together (value s.x) s.a s.b s.c (value c.divide-three.result.quotient) c.divide-one.result.rest c.divide-two.result.rest c.divide-three.result.rest = together (value c.args.x) c.args.a c.args.b c.args.c _ _ _ _ _ _ c.requires (omega arith) (omega arith) (omega arith) (numbers c.divide-one.ensures) (numbers c.divide-two.ensures) (numbers c.divide-three.ensures) in all') in
    (record { number = t.quotient; word = c.divide-three.ensures.0.word }, is_as c.add_word-rest.ensures (cc t.rest))
