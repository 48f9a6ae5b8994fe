-- What burns, row by row: for a kind whose rows' carbon and ratios these are. Assumes nothing.
--     rows_burned               what the rows add up to
--     row_small, total-fits     how large a row's is; and all rows' has room to be rounded
use Prim.Native.Nat.{ℕ, ◌+◌, ◌*◌, ◌^◌, ◌<◌, ◌≤◌}
use mathlib.Core.Path.{◌≡◌, refl, sym, ap, subst}
use mathlib.Core.Bool.{false}
use mathlib.Core.List.{List, []}
use native.Mathlib.Omega.{arith}
use native.Mathlib.Nat.{mul-le-mul}
use lib.ListN.{length, take, get_or}
use Rattle.form.specs.Layout.{kinds, layout, above_limit}
use Rattle.form.specs.Sums.{sum_of}
use Rattle.form.specs.Verdict.{rows, Formed}
use Rattle.form.specs.declared.Counts.{Counts}
use Rattle.wide.specs.Numbers.{value, words_of}
use Rattle.totals.specs.Laws.{amounts}
use Rattle.totals.specs.RowSums.{added_up}
use Rattle.totals.proofs.Sums.{sum-next}
use Rattle.totals.proofs.Accepted.{small}
use Rattle.totals.proofs.RowSums.{comes_to}
use Rattle.burning.specs.Released.{Thousandths, released_of, plus, none, row_of, burned_by, ReleasedMost}
use Rattle.burning.specs.Gases.{Fits}
use Rattle.burning.specs.declared.Ratios.{Ratios}
use Rattle.burning.specs.declared.Released.{Released}

-- a product of a row's carbon and one or two ratios
by_one : (n k : ℕ) → n ≤ 10 ^ 23 → k ≤ 1000 → n * k ≤ 10 ^ 26
by_one n k hn hk = omega (arith, mul-le-mul hn hk)

by_two : (n k j : ℕ) → n ≤ 10 ^ 23 → k ≤ 1000 → j ≤ 1000 → n * k * j ≤ 10 ^ 29
by_two n k j hn hk hj = omega (arith, mul-le-mul (by_one n k hn hk) hj)

module _ (c : List ℕ → ℕ) (by : List ℕ → Ratios) where
  first : none ≡ burned_by c by []
  unfolding burned_by sum_of
  first = refl

  one_row : (rs : List (List ℕ)) (i : ℕ) → i < length rs → plus (burned_by c by (take i rs)) (row_of c by (get_or rs i [])) ≡ burned_by c by (take (i + 1) rs)
  unfolding plus burned_by released_of
  one_row rs i l =
      let r = get_or rs i [] in
      let n = amounts (c r) in
      let more : (f : List ℕ → ℕ) (x : ℕ) → x ≡ f r → words_of (value (words_of (sum_of f (take i rs))) + value (words_of x)) ≡ words_of (sum_of f (take (i + 1) rs)) = λ f x e. ap words_of (omega (arith, amounts (sum_of f (take i rs)), amounts x, e, sum-next f rs i l)) in
      let a = more c (c r) refl in
      let ch4 = more (λ r. c r * (by r).ch4) _ (ap (λ (x : ℕ). x * (by r).ch4) n) in
      let co = more (λ r. c r * (by r).co) _ (ap (λ (x : ℕ). x * (by r).co) n) in
      let n2o = more (λ r. c r * (by r).nc * (by r).n2o) _ (ap (λ (x : ℕ). x * (by r).nc * (by r).n2o) n) in
      let nox = more (λ r. c r * (by r).nc * (by r).nox) _ (ap (λ (x : ℕ). x * (by r).nc * (by r).nox) n) in
      λ j. record { carbon = record { 0 = a j }; ch4 = record { 0 = ch4 j }; co = record { 0 = co j }; n2o = record { 0 = n2o j }; nox = record { 0 = nox j } }

  pub rows_burned : (rs : List (List ℕ)) → added_up none plus (row_of c by) rs ≡ burned_by c by rs
  rows_burned rs = comes_to plus (row_of c by) (burned_by c by) rs first (one_row rs)

  -- how large: a row's carbon is at most 10^23, and its ratios are thousandths
  pub row_small : (r : List ℕ) → c r ≤ 10 ^ 23 → Thousandths (by r) → ReleasedMost (10 ^ 29) (row_of c by r)
  unfolding released_of
  row_small r h t =
      let m : value (words_of (c r)) ≤ 10 ^ 23 = omega (arith, amounts (c r)) in
      record {
        carbon = omega (arith, m);
        ch4 = omega (arith, amounts (value (words_of (c r)) * (by r).ch4), by_one _ _ m t.ch4);
        co = omega (arith, amounts (value (words_of (c r)) * (by r).co), by_one _ _ m t.co);
        n2o = omega (arith, amounts (value (words_of (c r)) * (by r).nc * (by r).n2o), by_two _ _ _ m t.nc t.n2o);
        nox = omega (arith, amounts (value (words_of (c r)) * (by r).nc * (by r).nox), by_two _ _ _ m t.nc t.nox);
      }

  -- 32 rows at most, so that their sums have room to be rounded
  module _ (s : List ℕ) (counts : Counts) (acc : Formed s counts) (k : ℕ) (lo : 1 ≤ k) (hi : k ≤ kinds)
      (carbons : (r : List ℕ) → above_limit (layout k) r ≡ false → c r ≤ 10 ^ 23) (ratios : (r : List ℕ) → above_limit (layout k) r ≡ false → Thousandths (by r)) where
    below : (f : List ℕ → ℕ) (b : ℕ) → ((r : List ℕ) → above_limit (layout k) r ≡ false → f r ≤ b) → value (words_of (sum_of f (rows k s))) ≤ b * 32
    below f b h = omega (arith, amounts (sum_of f (rows k s)), small s counts acc k f b lo hi h)

    pub total-fits : {t : Released} → t ≡ burned_by c by (rows k s) → Fits t
    unfolding burned_by
    total-fits e = subst Fits (sym e) (
      omega (arith, below (λ r. c r * (by r).ch4) (10 ^ 26) (λ r h. by_one _ _ (carbons r h) (ratios r h).ch4)),
      omega (arith, below (λ r. c r * (by r).co) (10 ^ 26) (λ r h. by_one _ _ (carbons r h) (ratios r h).co)),
      omega (arith, below (λ r. c r * (by r).nc * (by r).n2o) (10 ^ 29) (λ r h. by_two _ _ _ (carbons r h) (ratios r h).nc (ratios r h).n2o)),
      omega (arith, below (λ r. c r * (by r).nc * (by r).nox) (10 ^ 29) (λ r h. by_two _ _ _ (carbons r h) (ratios r h).nc (ratios r h).nox)),
    )
