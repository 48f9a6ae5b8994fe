-- The rule of rounding among all whole numbers, of either sign. Assumes nothing.
--     none_nearer, even-half    no whole number is nearer, and at a half it is even
--     only_one                  nothing else is so
use Prim.Native.Nat.{ℕ, suc, ◌+◌, ◌*◌, ◌%◌, ◌<◌, ◌≤◌}
use mathlib.Core.Path.{◌≡◌, sym, ap, ◌∙◌}
use native.Mathlib.Nat.{mul-add}
use native.Mathlib.Omega.{arith}
use lib.IntN.{ℤ, pos, negsuc, neg_ℤ, neg_ℤ-neg_ℤ, nat_abs, ◌-ℤ◌, ◌*ℤ◌}
use Rattle.wide.specs.Rounding.{nearest}
use Rattle.wide.specs.Signs.{nearest_z}
use Rattle.wide.proofs.SignLaws.{size_turned}
use Rattle.wide.proofs.Halves.{gap, far-above, far-below, far_turned, Close, close, close_nearest, close_one}

-- how far q is from x over d, in parts of d
abbrev far : ℤ → ℕ → ℤ → ℕ
far x d q = nat_abs (x -ℤ pos d *ℤ q)

-- with x below zero, both signs are turned
turned_back : (x : ℤ) (d : ℕ) (z : ℤ) → far x d (neg_ℤ z) ≡ far (neg_ℤ x) d z
turned_back x d z = sym (far_turned x d (neg_ℤ z)) ∙ ap (far (neg_ℤ x) d) (neg_ℤ-neg_ℤ z)

a_divisor : (d m : ℕ) → d ≤ d * suc m
a_divisor d m = omega (arith, mul-add d m 1)

-- of a number that is not below zero
module _ (n d : ℕ) (h : 0 < d) where
  near-above : (z : ℤ) → far (pos n) d (pos (nearest n d)) ≤ far (pos n) d z
  near-above (pos m) = rw (far-above n d (nearest n d), far-above n d m) (close_nearest (close n d h) m)
  near-above (negsuc m) = rw (far-above n d (nearest n d), far-below n d m) (omega (arith, (close n d h).half, a_divisor d m))

  even-above : 2 * far (pos n) d (pos (nearest n d)) ≡ d → nearest n d % 2 ≡ 0
  even-above e = (close n d h).even (rw (far-above n d (nearest n d)) at e)

  one_above : (q : ℤ) → ((z : ℤ) → far (pos n) d q ≤ far (pos n) d z) → (2 * far (pos n) d q ≡ d → nat_abs q % 2 ≡ 0) → q ≡ pos (nearest n d)
  one_above (pos m) near even =
      let c = close n d h in
      let l : gap n (d * m) ≤ gap n (d * nearest n d) = rw (far-above n d m, far-above n d (nearest n d)) at (near (pos (nearest n d))) in
      let e : 2 * gap n (d * m) ≡ d → m % 2 ≡ 0 = rw (far-above n d m) at even in
      ap pos (close_one h (record { half = omega (arith, c.half, l); even = e }) c)
  one_above (negsuc m) near even =
      let l : n + d * suc m ≤ gap n (d * 0) = rw (far-below n d m, far-above n d 0) at (near (pos 0)) in
      absurd (omega (arith, l, a_divisor d m))

-- and of any
pub none_nearer : (x : ℤ) (d : ℕ) → 0 < d → (z : ℤ) → far x d (nearest_z x d) ≤ far x d z
none_nearer (pos n) d h z = near-above n d h z
none_nearer (negsuc n) d h z =
    omega (arith, far_turned (pos (suc n)) d (pos (nearest (suc n) d)), turned_back (pos (suc n)) d z, near-above (suc n) d h (neg_ℤ z))

pub even-half : (x : ℤ) (d : ℕ) → 0 < d → 2 * far x d (nearest_z x d) ≡ d → nat_abs (nearest_z x d) % 2 ≡ 0
even-half (pos n) d h e = even-above n d h e
even-half (negsuc n) d h e =
    let q = pos (nearest (suc n) d) in
    rw (size_turned q) (even-above (suc n) d h (rw (far_turned (pos (suc n)) d q) at e))

-- what is as near as the rule's answer, and even at a half, is the rule's answer
pub only_one : (x : ℤ) (d : ℕ) → 0 < d → (q : ℤ) → ((z : ℤ) → far x d q ≤ far x d z) → (2 * far x d q ≡ d → nat_abs q % 2 ≡ 0) → q ≡ nearest_z x d
only_one (pos n) d h q near even = one_above n d h q near even
only_one (negsuc n) d h q near even =
    let x = pos (suc n) in
    let turned : neg_ℤ q ≡ pos (nearest (suc n) d) = one_above (suc n) d h (neg_ℤ q)
    (λ z. omega (arith, turned_back x d q, far_turned x d z, near (neg_ℤ z)))
    (λ e. rw (size_turned q) (even (rw (turned_back x d q) at e))) in
    sym (neg_ℤ-neg_ℤ q) ∙ ap neg_ℤ turned
