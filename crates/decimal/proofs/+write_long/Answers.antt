-- Eight digits are left for the last, and what is above them is a smaller number.
use mathlib.Core.Path.{◌≡◌, ap}
use Prim.Native.Nat.{ℕ, ◌+◌, ◌≤◌, ◌^◌}
use native.Mathlib.Omega.{arith}
use lib.ListN.{length}
use Rattle.wide.specs.Numbers.{value}
use Rattle.decimal.specs.Digits.{decimal}
use Rattle.wide.proofs.Laws.{value_low, value-high}
use Rattle.decimal.proofs.DigitLaws.{length-after, write_after}
use Rattle.decimal.proofs.+write_long.Goals as goal

pub write_word-requires : goal.write_word-requires
write_word-requires t c = let low : value c.args.x ≡ c.args.x.lo = value_low c.args.x c.if-x-eq0.true in omega (arith, ap (λ (n : ℕ). length (decimal n)) low)

pub returns-then-x-eq0 : goal.returns-then-x-eq0
returns-then-x-eq0 t c = let low : value c.args.x ≡ c.args.x.lo = value_low c.args.x c.if-x-eq0.true in rw low c.write_word.ensures

pub write_long-next-requires : goal.write_long-next-requires
write_long-next-requires t c =
    let high : 2 ^ 64 ≤ value c.args.x = value-high c.args.x c.if-x-eq0.false in
    let longer : length (decimal (value c.args.x)) ≡ length (decimal (value c.divide-p.result.quotient)) + 8 = length-after 8 _ c.divide-p.ensures.0.number c.divide-p.ensures.1 (omega arith) in
    (omega arith, omega arith)

pub put_eight-requires : goal.put_eight-requires
put_eight-requires t c =
    let high : 2 ^ 64 ≤ value c.args.x = value-high c.args.x c.if-x-eq0.false in
    let longer : length (decimal (value c.args.x)) ≡ length (decimal (value c.divide-p.result.quotient)) + 8 = length-after 8 _ c.divide-p.ensures.0.number c.divide-p.ensures.1 (omega arith) in
    (omega arith, omega arith)

pub returns : goal.returns
returns t c =
    let high : 2 ^ 64 ≤ value c.args.x = value-high c.args.x c.if-x-eq0.false in
    write_after 8 _ c.divide-p.ensures.0.number c.divide-p.ensures.1 (omega arith) c.write_long-next.ensures c.put_eight.ensures
