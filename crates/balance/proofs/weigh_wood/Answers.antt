use Prim.Native.Nat.{◌*◌}
use mathlib.Core.Path.{◌≡◌}
use Rattle.form.specs.Sums.{column_k}
use Rattle.form.specs.Verdict.{rows}
use Rattle.wide.specs.Numbers.{value}
use Rattle.wide.proofs.Laws.{value_words, words, is_as}
use Rattle.totals.proofs.Accepted.{columns-small}
use native.Mathlib.Omega.{arith}
use Rattle.balance.proofs.weigh_wood.Goals as goal

pub times-requires : goal.times-requires
times-requires c =
    let small = columns-small c.args.bytes.now c.args.c c.requires in
    rw (c.sum_harvest-k.ensures, (value_words (column_k (rows 3 c.args.bytes.now))).number) (omega (arith, small))

pub returns : goal.returns
returns c =
    let k = column_k (rows 3 c.args.bytes.now) in
    let n : value c.sum_harvest-k.result.0 ≡ k = rw c.sum_harvest-k.ensures (value_words k).number in
    let u = words {n = 100 * k} (is_as c.times.ensures (omega (arith, n))) in
    λ i. record { used = record { 0 = u i }; cleared = c.sum_cleared-cleared.ensures i }
