-- What the rows of a kind add up to. Assumes nothing.
--     row_there      a row that stands is one that the loop hands on
--     one_more, all_added    one row more, past the last
--     comes_to       what grows with each row as the sum does is the sum
--     mass_of_sum    a mass of one number a row
use Prim.Native.Nat.{ℕ, zero, suc, ◌+◌, ◌*◌, ◌<◌, ◌≤◌}
use mathlib.Core.Path.{◌≡◌, refl, sym, ap, ◌∙◌}
use mathlib.Core.List.{List, [], ◌∷◌}
use native.Mathlib.Numerals.{add-one}
use native.Mathlib.Omega.{arith}
use native.Mathlib.Nat.{mul-le-mul_right}
use lib.ListN.{length, take, get_or}
use lib.Seq.{take_all, take-length}
use Rattle.form.specs.Layout.{kinds}
use Rattle.form.specs.Verdict.{count_in, rows, Formed}
use Rattle.form.specs.declared.Counts.{Counts}
use Rattle.standing.proofs.Accepted.{counted, rows-length}
use Rattle.standing.proofs.Rows.{Stands, kept}
use Rattle.form.specs.Sums.{sum_of}
use Rattle.totals.specs.RowSums.{RowAt, added, added_up}
use Rattle.totals.proofs.Sums.{sum-next}

pub row_there : (s : List ℕ) (c : Counts) → Formed s c → {k i at : ℕ} → 1 ≤ k → k ≤ kinds → Stands s k i at → RowAt k s at
row_there s c acc {k} {i} lo hi w = record { inside = w.inside; kept = rw (← w.row) (kept s c acc k i lo hi w.there); place = i; there = w.there; row = w.row }

-- how much so many rows may be
pub none_of : (b : ℕ) → 0 ≡ 0 * b
none_of b = omega arith

pub one_of : (i b : ℕ) → i * b + b ≡ (i + 1) * b
one_of i b = omega arith

pub few_of : {i : ℕ} (b : ℕ) → i ≤ 32 → i * b ≤ 32 * b
few_of b l = mul-le-mul_right b l

module _ {T : Type 0} (both : T → T → T) (part : List ℕ → T) where
  one-suc : (t : T) (rs : List (List ℕ)) (i : ℕ) → i < length rs → added both part t (take (suc i) rs) ≡ both (added both part t (take i rs)) (part (get_or rs i []))
  unfolding added
  one-suc t [] i l = absurd (omega arith)
  one-suc t (r ∷ rs) zero l = refl
  one-suc t (r ∷ rs) (suc i) l = one-suc (both t (part r)) rs i (omega arith)

  pub one_more : (t : T) (rs : List (List ℕ)) (i : ℕ) → i < length rs → added both part t (take (i + 1) rs) ≡ both (added both part t (take i rs)) (part (get_or rs i []))
  one_more t rs i l = rw add-one (one-suc t rs i l)

  pub all_added : (s : List ℕ) (c : Counts) → Formed s c → (k i : ℕ) (t : T) → 1 ≤ k → k ≤ kinds → count_in c k ≤ i → added both part t (take i (rows k s)) ≡ added both part t (rows k s)
  all_added s c acc zero i t lo hi l = absurd (omega arith)
  all_added s c acc (suc k) i t lo hi l = ap (added both part t) (take_all i (rows (suc k) s) (omega (arith, rows-length s c acc (suc k), counted s c acc k hi)))

  first_rows : (all : List (List ℕ) → T) (rs : List (List ℕ)) → ((i : ℕ) → i < length rs → both (all (take i rs)) (part (get_or rs i [])) ≡ all (take (i + 1) rs))
      → (i : ℕ) → i ≤ length rs → added both part (all []) (take i rs) ≡ all (take i rs)
  unfolding added
  first_rows all rs h zero l = refl
  first_rows all rs h (suc i) l = one-suc (all []) rs i l ∙ ap (λ (t : T). both t (part (get_or rs i []))) (first_rows all rs h i (omega arith)) ∙ rw (← add-one) (h i l)

  pub comes_to : {none : T} (all : List (List ℕ) → T) (rs : List (List ℕ)) → none ≡ all []
      → ((i : ℕ) → i < length rs → both (all (take i rs)) (part (get_or rs i [])) ≡ all (take (i + 1) rs)) → added both part none rs ≡ all rs
  comes_to all rs e h =
      ap (λ (t : T). added both part t rs) e ∙ ap (added both part (all [])) (sym (take-length rs)) ∙ first_rows all rs h (length rs) (omega arith) ∙ ap all (take-length rs)

-- a mass that grows with each row's part is that of their sum
pub mass_of_sum : {M : Type 0} (mass : ℕ → M) (amount : M → ℕ) → ((n : ℕ) → amount (mass n) ≡ n) → (f : List ℕ → ℕ) (rs : List (List ℕ))
    → added_up (mass 0) (λ a b. mass (amount a + amount b)) (λ r. mass (f r)) rs ≡ mass (sum_of f rs)
unfolding sum_of
mass_of_sum mass amount known f rs =
    comes_to (λ a b. mass (amount a + amount b)) (λ r. mass (f r)) (λ rs. mass (sum_of f rs)) rs refl
    (λ i l. ap mass (omega (arith, known (sum_of f (take i rs)), known (f (get_or rs i [])), sum-next f rs i l)))
