-- How long the lines are. Assumes nothing.
--     columns-short     the totals of a ledger that has room: every value has at most 36 digits and a sign
use Prim.Native.Nat.{ℕ, ◌+◌, ◌*◌, ◌/◌, ◌%◌, ◌^◌, ◌<◌, ◌≤◌}
use mathlib.Core.Path.{◌≡◌, refl, sym, ap, subst, ◌∙◌}
use mathlib.Core.Bool.{Bool, true, false, cond}
use mathlib.Core.List.{List, [], ◌∷◌, flat_map}
use native.Mathlib.Nat.{le_trans, div-le_self}
use native.Mathlib.Omega.{arith}
use lib.Dec.{ltb, eqb, lit≤}
use lib.IntN.{ℤ, pos, negsuc, neg_ℤ, nat_abs, ◌*ℤ◌, *ℤ_comm}
use lib.ListN.{length, length-append}
use Rattle.wide.specs.Numbers.{value, words_of}
use Rattle.wide.specs.Rounding.{even_of, settled, nearest}
use Rattle.wide.specs.Signs.{amount, signed_of, nearest_z}
use Rattle.wide.specs.declared.signed.Signed.{Signed}
use Rattle.wide.proofs.Laws.{value_words}
use Rattle.wide.proofs.SignLaws.{size-amount, size_turned, size-times, form-holds}
use Rattle.decimal.specs.Digits.{decimal, marked}
use Rattle.decimal.proofs.DigitLaws.{decimal-length}
use Rattle.totals.specs.declared.Carbon.{Carbon}
use Rattle.units.specs.Columns.{column_m, column_p, column_q, reported, sum_of_both, co2_of}
use Rattle.units.specs.declared.NetCarbon.{NetCarbon}
use Rattle.units.specs.declared.NetCo2.{NetCo2}
use Rattle.ledger.specs.Ledger.{Bounded}
use Rattle.ledger.specs.Derived.{stocks_of, conversion_of}
use Rattle.ledger.specs.declared.Ledger.{Ledger}
use Rattle.ledger.proofs.Sizes.{size_M, size_P}
use Rattle.gathered.specs.Gathered.{count_of}
use Rattle.gathered.specs.declared.Tally.{Tally}
use Rattle.national.specs.Lines.{Total, total_line, totals_by, totals_in, columns_text}
use Rattle.national.specs.Steps.{columns_room}

-- numbers of at most 36 digits
plain-short : (n : ℕ) → n < 10 ^ 36 → length (decimal n) ≤ 40
plain-short n h = omega (arith, decimal-length 35 n h)

pub marked-short : (z : ℤ) → nat_abs z < 10 ^ 36 → length (marked z) ≤ 40
marked-short (pos n) h = plain-short n h
marked-short (negsuc n) h = omega (arith, decimal-length 35 _ h)

-- a rounded number is not much larger than the quotient
settled_by : (q : ℕ) (a b c : Bool) → cond a q (cond b (q + 1) (cond c q (q + 1))) ≤ q + 1
settled_by q true b c = omega arith
settled_by q false true c = omega arith
settled_by q false false true = omega arith
settled_by q false false false = omega arith

nearest-small : (x d : ℕ) → nearest x d ≤ x + 1
unfolding settled even_of
nearest-small x d = le_trans (settled_by (x / d) (ltb (2 * (x % d)) d) (ltb d (2 * (x % d))) (eqb (x / d % 2) 0)) (omega (arith, div-le_self x d))

nearest-size : (z : ℤ) (d : ℕ) → nat_abs (nearest_z z d) ≡ nearest (nat_abs z) d
nearest-size (pos n) d = refl
nearest-size (negsuc n) d = size_turned (pos (nearest _ d))

-- Q, from P
size_Q : (p : NetCarbon) → value p.0.size < 2 ^ 100 → nat_abs (amount (column_q p).0) < 10 ^ 36
size_Q p h =
    let z = pos 11 *ℤ amount p.0 in
    let e : nat_abs (amount (column_q p).0) ≡ nearest (nat_abs z) 3000000 = ap nat_abs (form-holds (nearest_z z 3000000)).number ∙ nearest-size z 3000000 in
    let s : nat_abs z ≡ value p.0.size * 11 = ap nat_abs (*ℤ_comm (pos 11) (amount p.0)) ∙ size-times (amount p.0) 11 ∙ ap (λ (n : ℕ). n * 11) (sym (size-amount p.0)) in
    omega (arith, e, s, nearest-small (nat_abs z) 3000000)

size-report : (q : NetCo2) → nat_abs (amount q.0) < 10 ^ 36 → nat_abs (amount (reported q).0) < 10 ^ 36
size-report q h =
    let e : nat_abs (amount (reported q).0) ≡ nat_abs (amount q.0) = ap nat_abs (form-holds (neg_ℤ (amount q.0))).number ∙ size_turned (amount q.0) in
    omega (arith, e)

-- and co2, from carbon
size-co2 : (c : Carbon) → value c.0 < 2 ^ 100 → value (co2_of c).0 < 10 ^ 36
size-co2 c h = omega (arith, (value_words (nearest (11 * value c.0) 3000000000)).number, nearest-small (11 * value c.0) 3000000000)

net-small : (z : Signed) (n : ℕ) → value z.size < n → n ≤ 10 ^ 36 → nat_abs (amount z) < 10 ^ 36
net-small z n h l = omega (arith, size-amount z)

-- the lines of short values
abbrev Short : List Total → Type 0
Short [] = Unit {0}
Short (x ∷ xs) = (length (marked x.number) ≤ 40) × Short xs

lines-short : (xs : List Total) → Short xs → length (flat_map total_line xs) ≤ length (flat_map (λ (x : Total). x.name) xs) + 42 * length xs
unfolding flat_map
lines-short [] h = omega arith
lines-short (x ∷ xs) h = simp length-append (omega (arith, h.0, lines-short xs h.1))

module _ (t : Tally) (few : count_of t ≤ 500) (b : Bounded t.ledger) where
  values_short : Short (totals_in t)
  unfolding totals_by stocks_of conversion_of
  values_short =
      let g = t.ledger in
      let p = column_p g.e g.o in
      let hp = size_P g.e g.o b.e b.o in
      let hq = size_Q p hp in
      let r = sum_of_both g.onsite g.offsite in
      let er = (value_words (value g.onsite.0 + value g.offsite.0)).number in
      let ed = (value_words (value r.0 + value g.decay.0)).number in (
        plain-short t.accepted (omega arith),
        (
          plain-short t.refused (omega arith),
          (
            plain-short (value g.e.0) (omega (arith, b.e)),
            (
              plain-short (value g.k.0) (omega (arith, b.k)),
              (
                plain-short (value g.l.0) (omega (arith, b.l)),
                (
                  marked-short (amount (column_m g.k g.l).0) (net-small (column_m g.k g.l).0 (2 ^ 80) (size_M g.k g.l b.k b.l) (lit≤ tt)),
                  (
                    marked-short (amount p.0) (net-small p.0 (2 ^ 100) hp (lit≤ tt)),
                    (
                      marked-short (amount (column_q p).0) hq,
                      (
                        marked-short (amount (reported (column_q p)).0) (size-report (column_q p) hq),
                        (
                          plain-short (value g.onsite.0) (omega (arith, b.onsite)),
                          (
                            plain-short (value g.offsite.0) (omega (arith, b.offsite)),
                            (
                              plain-short (value g.decay.0) (omega (arith, b.decay)),
                              (plain-short (value (co2_of (sum_of_both r g.decay)).0) (size-co2 (sum_of_both r g.decay) (omega (arith, b.onsite, b.offsite, b.decay, er, ed))), tt),
                            ),
                          ),
                        ),
                      ),
                    ),
                  ),
                ),
              ),
            ),
          ),
        ),
      )

  names_length : length (flat_map (λ (x : Total). x.name) (totals_in t)) + 42 * length (totals_in t) ≤ columns_room
  unfolding flat_map totals_by
  names_length = lit≤ tt

  pub columns-short : length (columns_text t) ≤ columns_room
  columns-short = le_trans (lines-short (totals_in t) values_short) names_length
