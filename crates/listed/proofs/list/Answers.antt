use mathlib.Core.Path.{refl}
use borrow.Author.Rules.{rules}
use Rattle.listed.specs.Listed.{listed}
use Rattle.listed.proofs.Laws.{all_two_words}
use Rattle.listed.proofs.list.Goals as goal

pub returns-clause-value : goal.returns-clause-value
unfolding listed
returns-clause-value c = refl

pub returns-clause-two_words : goal.returns-clause-two_words
unfolding listed
returns-clause-two_words c = all_two_words (listed c.args.f) (record { lo = search rules; hi = search rules }, (record { lo = search rules; hi = search rules }, (record { lo = search rules; hi = search rules }, (record { lo = search rules; hi = search rules }, (record { lo = search rules; hi = search rules }, (record { lo = search rules; hi = search rules }, (record { lo = search rules; hi = search rules }, (record { lo = search rules; hi = search rules }, (record { lo = search rules; hi = search rules }, (record { lo = search rules; hi = search rules }, (record { lo = search rules; hi = search rules }, (record { lo = search rules; hi = search rules }, (record { lo = search rules; hi = search rules }, (record { lo = search rules; hi = search rules }, (record { lo = search rules; hi = search rules }, (record { lo = search rules; hi = search rules }, (record { lo = search rules; hi = search rules }, (record { lo = search rules; hi = search rules }, (record { lo = search rules; hi = search rules }, (record { lo = search rules; hi = search rules }, (record { lo = search rules; hi = search rules }, (record { lo = search rules; hi = search rules }, (record { lo = search rules; hi = search rules }, (record { lo = search rules; hi = search rules }, (record { lo = search rules; hi = search rules }, (record { lo = search rules; hi = search rules }, (record { lo = search rules; hi = search rules }, (record { lo = search rules; hi = search rules }, (record { lo = search rules; hi = search rules }, (record { lo = search rules; hi = search rules }, (record { lo = search rules; hi = search rules }, (record { lo = search rules; hi = search rules }, (record { lo = search rules; hi = search rules }, (record { lo = search rules; hi = search rules }, (record { lo = search rules; hi = search rules }, (record { lo = search rules; hi = search rules }, (record { lo = search rules; hi = search rules }, (record { lo = search rules; hi = search rules }, tt))))))))))))))))))))))))))))))))))))))
