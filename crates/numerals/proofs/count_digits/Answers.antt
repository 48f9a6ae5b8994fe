use Rattle.std.proofs.Common.{rules, tests, ap, ◌∙◌, length}
use native.Mathlib.Omega.{arith}
use Rattle.std.proofs.lemmas.Iterator.{YieldsList-from_slice}
use Rattle.std.proofs.lemmas.Iterator.Search.{YieldsList-from_take_while}
use Rattle.std.proofs.lemmas.Iterator.Consumers.{count_from_yields_List}
use Rattle.numerals.specs.Numerals.{is_digit}
use Rattle.numerals.proofs.Fronts.{digits-taken, digits_few}
use Rattle.numerals.proofs.count_digits.Goals as goal

pub returns : goal.returns
returns c =
    let text = c.args.text.now in
    let taken =
    count_from_yields_List c.take_while.result c.count.result c.count.ensures.ran
    (YieldsList-from_take_while _ is_digit (YieldsList-from_slice text (cc)) c.take_while.ensures.closure c.take_while.ensures.done (λ x b q k. search (rules, tests))) in
    let n = taken ∙ ap length (digits-taken text) in
    (n, omega (arith, n, digits_few text))
