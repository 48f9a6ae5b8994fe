-- "Exact national totals": the ledger of several returns has in each column the sum of theirs, and so have M and P, which are derived from it. Assumes nothing.
--     column-sum, signed_sum_lem    of any column that adds up from return to return
--     removed_sum, m_sum, p_sum    O, M and P
--     matter-whole    the five masses together are a million times the biomass that was cleared, over the accepted returns
use Prim.Native.Nat.{ℕ, ◌+◌, ◌*◌}
use mathlib.Core.Path.{◌≡◌, refl, sym, ap, ap₂, ◌∙◌}
use mathlib.Core.List.{List, [], ◌∷◌, map}
use native.Mathlib.Omega.{arith}
use lib.IntN.{ℤ, pos, neg_ℤ, ◌+ℤ◌, ◌-ℤ◌, +ℤ_assoc, +ℤ_comm, neg_ℤ-+ℤ, pos-+ℤ-pos}
use Rattle.form.specs.Sums.{sum_of}
use Rattle.form.specs.Verdict.{rows, verdict_of}
use Rattle.form.specs.Refusals.{Verdict}
use Rattle.std.specs.Prelude.{Ok, Err}
use Rattle.standing.proofs.Accepted.{formed}
use Rattle.wide.specs.Numbers.{value, words_of}
use Rattle.wide.specs.Signs.{amount, signed_of}
use Rattle.wide.proofs.Laws.{value_words}
use Rattle.wide.proofs.SignLaws.{form-holds}
use Rattle.matter.specs.Matter.{lost_total, together}
use Rattle.matter.proofs.Adding.{together-plus}
use Rattle.matter.proofs.Whole.{return-together}
use Rattle.ledger.specs.Ledger.{entered, none, plus, sum_ledgers}
use Rattle.ledger.specs.Derived.{stocks_of}
use Rattle.ledger.specs.declared.Ledger.{Ledger}
use Rattle.gathered.specs.Gathered.{ledger_in, if_accepted, accepted_of, signed_sum}

-- a column that is 0 of no return, and of two the sum of both
pub column-sum : (col : Ledger → ℕ) → col none ≡ 0 → ((a b : Ledger) → col (plus a b) ≡ col a + col b)
    → (rs : List (List ℕ)) → col (sum_ledgers (map ledger_in rs)) ≡ sum_of (λ r. col (ledger_in r)) rs
unfolding sum_of
column-sum col zero both [] = zero
column-sum col zero both (r ∷ rs) = both (ledger_in r) (sum_ledgers (map ledger_in rs)) ∙ ap (λ (n : ℕ). col (ledger_in r) + n) (column-sum col zero both rs)

pub signed_sum_lem : (col : Ledger → ℤ) → col none ≡ pos 0 → ((a b : Ledger) → col (plus a b) ≡ col a +ℤ col b)
    → (rs : List (List ℕ)) → col (sum_ledgers (map ledger_in rs)) ≡ signed_sum (λ r. col (ledger_in r)) rs
signed_sum_lem col zero both [] = zero
signed_sum_lem col zero both (r ∷ rs) = both (ledger_in r) (sum_ledgers (map ledger_in rs)) ∙ ap (λ (z : ℤ). col (ledger_in r) +ℤ z) (signed_sum_lem col zero both rs)

-- two differences
interchange : (a b c d : ℤ) → (a +ℤ b) +ℤ (c +ℤ d) ≡ (a +ℤ c) +ℤ (b +ℤ d)
interchange a b c d =
    +ℤ_assoc a b (c +ℤ d)
    ∙ ap (λ (z : ℤ). a +ℤ z) (sym (+ℤ_assoc b c d) ∙ ap (λ (z : ℤ). z +ℤ d) (+ℤ_comm b c) ∙ +ℤ_assoc c b d)
    ∙ sym (+ℤ_assoc a c (b +ℤ d))

differences : (a b c d : ℤ) → (a +ℤ c) -ℤ (b +ℤ d) ≡ (a -ℤ b) +ℤ (c -ℤ d)
differences a b c d = ap (λ (z : ℤ). (a +ℤ c) +ℤ z) (neg_ℤ-+ℤ b d) ∙ sym (interchange a (neg_ℤ b) c (neg_ℤ d))

hundreds : (x y : ℕ) → pos (100 * (x + y)) ≡ pos (100 * x) +ℤ pos (100 * y)
hundreds x y = let e : 100 * (x + y) ≡ 100 * x + 100 * y = omega arith in ap pos e ∙ sym (pos-+ℤ-pos (100 * x) (100 * y))

v : (n : ℕ) → value (words_of n) ≡ n
v n = (value_words n).number

w : (z : ℤ) → amount (signed_of z) ≡ z
w z = (form-holds z).number

pub removed_sum : (rs : List (List ℕ)) → amount (sum_ledgers (map ledger_in rs)).o.0 ≡ signed_sum (λ r. amount (ledger_in r).o.0) rs
unfolding plus
removed_sum = signed_sum_lem (λ g. amount g.o.0) (w (pos 0)) (λ a b. w (amount a.o.0 +ℤ amount b.o.0))

-- M = 100 K - L
m_both : (a b : Ledger) → amount (stocks_of (plus a b)).m.0 ≡ amount (stocks_of a).m.0 +ℤ amount (stocks_of b).m.0
unfolding stocks_of plus
m_both a b =
    let k = value a.k.0 in
    let h = value b.k.0 in
    let l = value a.l.0 in
    let m = value b.l.0 in
    w (pos (100 * value (words_of (k + h))) -ℤ pos (value (words_of (l + m))))
    ∙ ap₂ (λ (x y : ℕ). pos (100 * x) -ℤ pos y) (v (k + h)) (v (l + m))
    ∙ ap₂ (λ (x y : ℤ). x -ℤ y) (hundreds k h) (sym (pos-+ℤ-pos l m))
    ∙ differences (pos (100 * k)) (pos l) (pos (100 * h)) (pos m)
    ∙ sym (ap₂ (λ (x y : ℤ). x +ℤ y) (w (pos (100 * k) -ℤ pos l)) (w (pos (100 * h) -ℤ pos m)))

pub m_sum : (rs : List (List ℕ)) → amount (stocks_of (sum_ledgers (map ledger_in rs))).m.0 ≡ signed_sum (λ r. amount (stocks_of (ledger_in r)).m.0) rs
unfolding stocks_of value words_of
m_sum = signed_sum_lem (λ g. amount (stocks_of g).m.0) refl m_both

-- P = 100 E - O
p_both : (a b : Ledger) → amount (stocks_of (plus a b)).p.0 ≡ amount (stocks_of a).p.0 +ℤ amount (stocks_of b).p.0
unfolding stocks_of plus
p_both a b =
    let e = value a.e.0 in
    let h = value b.e.0 in
    let o = amount a.o.0 in
    let q = amount b.o.0 in
    w (pos (100 * value (words_of (e + h))) -ℤ amount (signed_of (o +ℤ q)))
    ∙ ap₂ (λ (x : ℕ) (z : ℤ). pos (100 * x) -ℤ z) (v (e + h)) (w (o +ℤ q))
    ∙ ap (λ (x : ℤ). x -ℤ (o +ℤ q)) (hundreds e h)
    ∙ differences (pos (100 * e)) o (pos (100 * h)) q
    ∙ sym (ap₂ (λ (x y : ℤ). x +ℤ y) (w (pos (100 * e) -ℤ o)) (w (pos (100 * h) -ℤ q)))

pub p_sum : (rs : List (List ℕ)) → amount (stocks_of (sum_ledgers (map ledger_in rs))).p.0 ≡ signed_sum (λ r. amount (stocks_of (ledger_in r)).p.0) rs
unfolding stocks_of value words_of
p_sum = signed_sum_lem (λ g. amount (stocks_of g).p.0) refl p_both

-- ---- where the cleared biomass went
abbrev matter_in : List ℕ → ℕ
matter_in r = together (ledger_in r).matter

together-sum : (rs : List (List ℕ)) → together (sum_ledgers (map ledger_in rs)).matter ≡ sum_of matter_in rs
unfolding plus
together-sum = column-sum (λ g. together g.matter) (omega (arith, v 0)) (λ a b. together-plus a.matter b.matter)

-- of accepted returns
abbrev Parts : List (List ℕ) → Type 0
Parts rs = sum_of matter_in rs ≡ 1000000 * sum_of (λ r. lost_total (rows 1 r)) rs

parts_by : (r : List ℕ) (v : Verdict) (xs : List (List ℕ)) → verdict_of r ≡ v → Parts xs → Parts (if_accepted v (r ∷ xs) xs)
unfolding sum_of entered
parts_by r (Ok c) xs e h = omega (arith, return-together r c (formed r c e))
parts_by r (Err refusal) xs e h = h

all_parts : (xs : List (List ℕ)) → Parts (accepted_of xs)
unfolding accepted_of sum_of
all_parts [] = omega arith
all_parts (r ∷ xs) = parts_by r (verdict_of r) (accepted_of xs) refl (all_parts xs)

pub matter-whole : (xs : List (List ℕ)) → together (sum_ledgers (map ledger_in (accepted_of xs))).matter ≡ 1000000 * sum_of (λ r. lost_total (rows 1 r)) (accepted_of xs)
matter-whole xs = together-sum (accepted_of xs) ∙ all_parts xs
