use Rattle.std.proofs.Common.{◌≡◌, ℕ, sym, refl, ◌∙◌, arith, rules, eqb-true}
use borrow.Author.Tests.{eqb-false}
use Rattle.wide.specs.Numbers.{value}
use Rattle.wide.proofs.SignLaws.{sized-zero}
use Rattle.wide.proofs.signed.with_sign.Goals as goal

pub returns-then-is_zero : goal.returns-then-is_zero
returns-then-is_zero c = record {
  number = sized-zero c.args.below _ (eqb-true _ _ (sym c.is_zero.ensures ∙ c.if-is_zero.true));
  form = λ e. let z : ◌≡◌ {A = ℕ} 0 1 = cc in omega arith;
  word = search rules;
}

pub returns-else-is_zero : goal.returns-else-is_zero
returns-else-is_zero c = record {
  number = refl;
  form = λ e. omega (arith, eqb-false (value c.args.size) 0 (sym c.is_zero.ensures ∙ c.if-is_zero.false));
  word = search rules;
}
