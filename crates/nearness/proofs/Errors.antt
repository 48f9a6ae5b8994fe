-- How far roundings take a number from the exact one. Assumes nothing.
--     off_self, off_more    no rounding; more roundings than there were
--     off_add, off_mul      sums and multiples are off as their parts are
--     off_rnd               one rounding more
--     off_near              a whole double that is n + 1 roundings off is as near as demand 3 asks
use mathlib.Core.Path.{◌≡◌, ◌∙◌}
use Prim.Native.Nat.{ℕ, suc, ◌+◌, ◌*◌, ◌^◌, ◌≤◌}
use native.Mathlib.Nat.{mul_comm, mul_assoc, mul_left_comm, mul_right_comm, mul-le-mul_right, mul-add, add-mul, suc-mul}
use native.Mathlib.Omega.{arith}
use lib.Ieee.{Float}
use Rattle.nearness.specs.Near.{Whole, Near}
use Rattle.nearness.proofs.Rounding.{rnd, Moved, rnd_off}

-- d is e but for j roundings: each counts 65 in 2 ^ 59, not 64 as in `Moved`, so that up to 64 of them simply add up
pub record Off (j d e : ℕ) : Type 0 where
  pub over : d * 2 ^ 59 ≤ e * 2 ^ 59 + 65 * (j * e)
  pub under : e * 2 ^ 59 ≤ d * 2 ^ 59 + 65 * (j * e)

pub off_self : (j n : ℕ) → Off j n n
off_self j n = record { over = omega arith; under = omega arith }

pub off_more : {j k d e : ℕ} → j ≤ k → Off j d e → Off k d e
off_more {j} {k} {d} {e} h o = let m = mul-le-mul_right e h in record { over = omega (arith, o.over); under = omega (arith, o.under) }

pub off_add : {j d e d' e' : ℕ} → Off j d e → Off j d' e' → Off j (d + d') (e + e')
off_add {j} {d} {e} {d'} {e'} o p = record { over = omega (arith, o.over, p.over, mul-add j e e'); under = omega (arith, o.under, p.under, mul-add j e e') }

scaled : (x y z j c : ℕ) → x * 2 ^ 59 ≤ y * 2 ^ 59 + 65 * (j * z) → x * c * 2 ^ 59 ≤ y * c * 2 ^ 59 + 65 * (j * (z * c))
scaled x y z j c h =
    let r : (y * 2 ^ 59 + 65 * (j * z)) * c ≡ y * c * 2 ^ 59 + 65 * (j * (z * c)) = add-mul (y * 2 ^ 59) (65 * (j * z)) c ∙ simp (mul_assoc, mul_comm, mul_left_comm) in
    rw (mul_right_comm x c (2 ^ 59), ← r) (mul-le-mul_right c h)

pub off_mul : {j d e : ℕ} (c : ℕ) → Off j d e → Off j (d * c) (e * c)
off_mul {j} {d} {e} c o = record { over = scaled d e e j c o.over; under = scaled e d e j c o.under }

step : (j d e r : ℕ) → j ≤ 64 → Off j d e → Moved r d → Off (suc j) r e
step j d e r h o p =
    let m = mul-le-mul_right e h in
    let s : d * 64 ≤ e * 65 = omega (arith, o.over) in
    record { over = omega (arith, o.over, p.over, suc-mul j e); under = omega (arith, o.under, p.under, suc-mul j e) }

pub off_rnd : {j d e : ℕ} → j ≤ 64 → Off j d e → Off (suc j) (rnd d) e
off_rnd {j} {d} {e} h o = step j d e (rnd d) h o (rnd_off d)

pub off_near : (n : ℕ) (x : Float) (v e : ℕ) → n ≤ 63 → Whole x v → Off (suc n) v e → Near n x e
off_near n x v e h w o =
    let m = mul-le-mul_right e h in
    record { value = v; whole = w; near = simp add-mul (omega (arith, o.over, o.under, suc-mul n e)) }
