use Prim.Native.Nat.{◌≤◌}
use mathlib.Core.Path.{◌≡◌}
use lib.ListN.{length, drop}
use Rattle.numerals.specs.Numerals.{digits_in, with_digits, capped}
use Rattle.numerals.proofs.add_digits.Given as goal

-- Digit by digit, each sum capped. Assumes nothing.
abbrev pub invariant-loop-k : goal.invariant-loop-k
invariant-loop-k l =
    (l.k ≤ length l.text) × (l.value ≤ 4294967296) × (capped (with_digits l.value (digits_in (drop l.k l.text))) ≡ capped (with_digits l.n (digits_in l.text)))
