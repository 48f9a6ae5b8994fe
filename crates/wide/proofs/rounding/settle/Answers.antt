use Rattle.std.proofs.Common.{◌≡◌, ℕ, ◌*◌, ltb, ap, ◌∙◌, arith, rules}
use Rattle.wide.specs.Numbers.{value}
use Rattle.wide.specs.Rounding.{settled}
use Rattle.wide.proofs.Laws.{is_itself}
use Rattle.wide.proofs.rounding.settle.Goals as goal

pub returns-then-less : goal.returns-then-less
unfolding settled
returns-then-less c = rw (← (let tested' : c.less.result ≡ ltb (2 * value c.args.r) (value c.args.d) = c.less.ensures ∙ ap (λ (n : ℕ). ltb n (value c.args.d)) (let twice' : value c.add-twice.result ≡ 2 * value c.args.r = omega arith in twice') in tested'), c.if-less.true) (is_itself (search rules))

pub returns-then-less-2 : goal.returns-then-less-2
unfolding settled
returns-then-less-2 c =
    rw (← (let tested' : c.less.result ≡ ltb (2 * value c.args.r) (value c.args.d) = c.less.ensures ∙ ap (λ (n : ℕ). ltb n (value c.args.d)) (let twice' : value c.add-twice.result ≡ 2 * value c.args.r = omega arith in twice') in tested'), c.if-less.false, ← (let tested_2' : let a = c.args in c.less-2.result ≡ ltb (value a.d) (2 * value a.r) = c.less-2.ensures ∙ ap (λ (n : ℕ). ltb (value c.args.d) n) (let twice' : value c.add-twice.result ≡ 2 * value c.args.r = omega arith in twice') in tested_2'), c.if-less-2.true) c.add_word.ensures

pub returns : goal.returns
unfolding settled
returns c =
    rw (← (let tested' : c.less.result ≡ ltb (2 * value c.args.r) (value c.args.d) = c.less.ensures ∙ ap (λ (n : ℕ). ltb n (value c.args.d)) (let twice' : value c.add-twice.result ≡ 2 * value c.args.r = omega arith in twice') in tested'), c.if-less.false, ← (let tested_2' : let a = c.args in c.less-2.result ≡ ltb (value a.d) (2 * value a.r) = c.less-2.ensures ∙ ap (λ (n : ℕ). ltb (value c.args.d) n) (let twice' : value c.add-twice.result ≡ 2 * value c.args.r = omega arith in twice') in tested_2'), c.if-less-2.false) c.even_of.ensures
