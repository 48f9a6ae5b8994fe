-- The five sums of conversion rows. Assumes nothing.
--     row_small     how large those of a row are
--     one_row       the sums over so many rows and one row more
use Rattle.std.proofs.Common.{◌≡◌, ℕ, ◌+◌, ◌^◌, ◌<◌, List, [], take, length, get_or, arith, ap, refl, false}
use Rattle.form.specs.Layout.{conversion, above_limit}
use Rattle.form.specs.Sums.{sum_of, cleared_part}
use Rattle.wide.specs.Numbers.{value, words_of}
use Rattle.totals.specs.Columns.{onsite_part, offsite_part, decay_part, thinner_part}
use Rattle.totals.specs.Sums.{parts_of, row_totals, no_totals, plus_totals, TotalsMost, totals_of}
use Rattle.totals.specs.Laws.{amounts}
use Rattle.totals.proofs.Limits.{cleared-below, onsite-below, offsite-below, decay-below, thinner-below}
use Rattle.totals.proofs.Sums.{sum-next}

pub row_small : (r : List ℕ) → above_limit conversion r ≡ false → TotalsMost (2 ^ 64) (row_totals (parts_of r))
unfolding row_totals
row_small r h = record {
  cleared = omega (arith, amounts (cleared_part r), cleared-below r h);
  onsite = omega (arith, amounts (onsite_part r), onsite-below r h);
  offsite = omega (arith, amounts (offsite_part r), offsite-below r h);
  decay = omega (arith, amounts (decay_part r), decay-below r h);
  thinner = omega (arith, amounts (thinner_part r), thinner-below r);
}

-- the words of a sum and of one row more
more : (f : List ℕ → ℕ) (rs : List (List ℕ)) (i : ℕ) → i < length rs
    → words_of (value (words_of (sum_of f (take i rs))) + value (words_of (f (get_or rs i [])))) ≡ words_of (sum_of f (take (i + 1) rs))
more f rs i l = ap words_of (omega (arith, amounts (sum_of f (take i rs)), amounts (f (get_or rs i [])), sum-next f rs i l))

pub no_rows : no_totals ≡ totals_of []
unfolding totals_of sum_of
no_rows = refl

pub one_row : (rs : List (List ℕ)) (i : ℕ) → i < length rs → plus_totals (totals_of (take i rs)) (row_totals (parts_of (get_or rs i []))) ≡ totals_of (take (i + 1) rs)
unfolding plus_totals totals_of row_totals
one_row rs i l =
    let cleared = more cleared_part rs i l in
    let onsite = more onsite_part rs i l in
    let offsite = more offsite_part rs i l in
    let decay = more decay_part rs i l in
    let thinner = more thinner_part rs i l in
    λ j. record { cleared = record { 0 = cleared j }; onsite = record { 0 = onsite j }; offsite = record { 0 = offsite j }; decay = record { 0 = decay j }; thinner = record { 0 = thinner j } }
