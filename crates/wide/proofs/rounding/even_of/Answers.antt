use Rattle.std.proofs.Common.{◌≡◌, ℕ, ◌+◌, ◌%◌, Bool, true, false, cond, eqb, refl, arith, eqb-true}
use borrow.Author.Tests.{eqb-false}
use Rattle.wide.specs.Numbers.{value}
use Rattle.wide.specs.Rounding.{even_of}
use Rattle.wide.specs.declared.Wide.{Wide}
use Rattle.wide.proofs.Laws.{is_as}
use Rattle.wide.proofs.rounding.even_of.Goals as goal

-- A number is as even as its lower word. Assumes nothing.
-- one more where it is odd
odd_up : (b : Bool) (n : ℕ) → eqb (n % 2) 0 ≡ b → n + n % 2 ≡ cond b n (n + 1)
odd_up true n e = omega (arith, eqb-true (n % 2) 0 e)
odd_up false n e = omega (arith, eqb-false (n % 2) 0 e)

low : (w : Wide) → value w % 2 ≡ w.lo % 2
unfolding value
low w = omega arith

pub returns : goal.returns
unfolding even_of
returns c =
    let q = c.args.q in
    is_as c.add_word.ensures (rw (← (low q)) (odd_up (eqb (value q % 2) 0) (value q) refl))
