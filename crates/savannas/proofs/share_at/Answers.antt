use Prim.Native.Nat.{◌+◌, ◌-◌, ◌*◌, ◌≤◌}
use lib.Dec.{lit<}
use native.Mathlib.Numerals.{bound}
use Rattle.form.specs.Layout.{row_from}
use Rattle.savannas.specs.Savannas.{carbon_share}
use Rattle.savannas.proofs.Limits.{shares, living_at}
use borrow.Author.Rules.{rules}
use Rattle.savannas.proofs.share_at.Goals as goal

pub overflow_sub-dead : goal.overflow_sub-dead
overflow_sub-dead c = let w = living_at c.args.bytes.now c.args.at c.requires.at_value in search rules

pub overflow_mul-of_live-2 : goal.overflow_mul-of_live-2
overflow_mul-of_live-2 c =
    let w = living_at c.args.bytes.now c.args.at c.requires.at_value in
    let a : c.two_at-live.result ≤ 1000 = search rules in
    let b : c.two_at.result ≤ 1000 = search rules in
    let d : c.two_at-2.result ≤ 1000 = search rules in
    record { fits = grw (bound, a, b, d) (lit< tt) }

pub overflow_mul-result-2 : goal.overflow_mul-result-2
overflow_mul-result-2 c =
    let w = living_at c.args.bytes.now c.args.at c.requires.at_value in
    let a : 1000 - c.two_at-live.result ≤ 1000 = search rules in
    let b : c.two_at-3.result ≤ 1000 = search rules in
    let d : c.two_at-4.result ≤ 1000 = search rules in
    record { fits = grw (bound, a, b, d) (lit< tt) }

pub overflow_add-result : goal.overflow_add-result
overflow_add-result c = let h = (let below' : let l = c.two_at-live.result in l * c.two_at.result * c.two_at-2.result + (1000 - l) * c.two_at-3.result * c.two_at-4.result ≤ 2000000000 = let w = living_at c.args.bytes.now c.args.at c.requires.at_value in shares _ _ _ _ _ _ (search rules) (search rules) (search rules) (search rules) (search rules) (search rules) in below') in record { fits = search rules }

pub returns : goal.returns
unfolding carbon_share row_from
returns c = (cc, (let below' : let l = c.two_at-live.result in l * c.two_at.result * c.two_at-2.result + (1000 - l) * c.two_at-3.result * c.two_at-4.result ≤ 2000000000 = let w = living_at c.args.bytes.now c.args.at c.requires.at_value in shares _ _ _ _ _ _ (search rules) (search rules) (search rules) (search rules) (search rules) (search rules) in below'))
