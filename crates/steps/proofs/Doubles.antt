-- Doubles that are wrong answers, and a double read back from its eight bytes. Assumes nothing.
use Prim.Native.Nat.{ℕ, ◌+◌, ◌-◌, ◌*◌, ◌^◌, ◌≤◌}
use mathlib.Core.Path.{◌≡◌, refl, ap, subst, ◌∙◌}
use mathlib.Core.Bool.{Bool, true, false, cond}
use mathlib.Core.List.{List, [], ◌∷◌, ◌++◌}
use native.Mathlib.Nat.{mul-le-mul_right}
use native.Mathlib.Omega.{arith}
use lib.Dec.{T, eqb}
use lib.Ieee.{Float, binary64, fits, add, mul, of_int, of_bits, to_bits}
use lib.Ieee.Fits.{add-fits, of_int-fits}
use lib.Ieee.Bits.{of_bits-to_bits, to_bits-lt}
use lib.IntN.{pos}
use lib.ListN.{length, drop}
use Rattle.form.specs.Bytes.{little_endian, number}
use Rattle.form.specs.Ruling.{on_front}
use Rattle.filing.proofs.Stands.{number_read}
use Rattle.totals.specs.Codes.{by_code}
use Rattle.doubles.specs.Double.{double}
use Rattle.nearness.specs.Near.{distance, Near}
use Rattle.doubles.specs.Subtotals.{times, part_of, onsite_double, offsite_double, decay_double, add_rows, subtotals_of}
use Rattle.nearness.proofs.Wholes.{one_value, double-holds}

-- zero is near no other number
pub near-zero : (n exact : ℕ) → n ≤ 32 → Near n (double 0) exact → exact ≡ 0
near-zero n exact h near =
    let v : near.value ≡ 0 = one_value (double 0) near.value 0 near.whole (double-holds 0 (omega arith)).whole in
    let b : ((0 - exact) + (exact - 0)) * 2 ^ 53 ≤ (n + 2) * exact = subst (λ (y : ℕ). distance y exact * 2 ^ 53 ≤ (n + 2) * exact) v near.near in
    let m : (n + 2) * exact ≤ 34 * exact = mul-le-mul_right exact (omega arith) in
    omega arith

-- the factors of one row in their order, and from the last to the first
pub in_order : to_bits binary64 (part_of 999999 9999 999 999 999) ≡ 4891273282717480353
unfolding to_bits of_int mul
in_order = refl

pub from_the_last : to_bits binary64 (times (times (times (times (double 999) 999) 999) 9999) 999999) ≡ 4891273282717480354
unfolding to_bits of_int mul
from_the_last = refl

-- ---- rows added up are a double of 64 bits
added_fit : (f : List ℕ → Float) (x : Float) (rs : List (List ℕ)) → T (fits binary64 x) → T (fits binary64 (add_rows f x rs))
unfolding add_rows
added_fit f x [] h = h
added_fit f x (r ∷ rs) h = added_fit f (add binary64 x (f r)) rs (add-fits binary64 x (f r))

from_zero : (f : List ℕ → Float) (rs : List (List ℕ)) → T (fits binary64 (add_rows f (double 0) rs))
from_zero f rs = added_fit f (double 0) rs (of_int-fits binary64 (pos 0))

one_fits : (a b : Bool) (x y z : Float) → T (fits binary64 x) → T (fits binary64 y) → T (fits binary64 z) → T (fits binary64 (cond a x (cond b y z)))
one_fits true b x y z p q r = p
one_fits false true x y z p q r = q
one_fits false false x y z p q r = r

pub subtotal_fits : (code : ℕ) (rs : List (List ℕ)) → T (fits binary64 (by_code code (subtotals_of rs).onsite (subtotals_of rs).offsite (subtotals_of rs).decay))
subtotal_fits code rs =
    let d = subtotals_of rs in
    one_fits (eqb code 0) (eqb code 1) d.onsite d.offsite d.decay
    (from_zero onsite_double rs) (from_zero offsite_double rs) (from_zero decay_double rs)

-- the eight bytes at the front of a room are read back as the double whose bits they are
pub bits_back : (x : Float) (room : List ℕ) → T (fits binary64 x) → of_bits binary64 (number 8 (on_front (little_endian 8 (to_bits binary64 x)) room) 0) ≡ x
bits_back x room h =
    let b = little_endian 8 (to_bits binary64 x) in
    ap (of_bits binary64) (number_read 8 (on_front b room) 0 (to_bits-lt binary64 x h) (record { rest = drop (length b) room; is = refl }))
    ∙ of_bits-to_bits binary64 x h

-- what holds of each of three is so of the one that a code names
pub by_code-holds : {X Y : Type 0} (R : X → Y → Type 0) (code : ℕ) {x y z : X} {a b c : Y} → R x a → R y b → R z c
    → R (by_code code x y z) (by_code code a b c)
by_code-holds R code {x} {y} {z} {a} {b} {c} p q r = go (eqb code 0) (eqb code 1)
  where
    go : (i j : Bool) → R (cond i x (cond j y z)) (cond i a (cond j b c))
    go true j = p
    go false true = q
    go false false = r
