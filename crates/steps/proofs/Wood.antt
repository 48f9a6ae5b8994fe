-- What rule 12 says of a return, and of M and O. Assumes nothing.
--     wood_good, wood-refused    an accepted return uses at least what it clears; one that is refused 12 clears more, and the place is 0
--     wood_passes, wood-stops    of a return that keeps the rules before, which of the two it is
--     plain_m, plain_o           so M and O are plain numbers
use Prim.Native.Nat.{ℕ, ◌-◌, ◌*◌, ◌≤◌, ◌<◌}
use mathlib.Core.Path.{◌≡◌, refl, sym, ap, ◌∙◌}
use mathlib.Core.Bool.{true, false}
use mathlib.Core.List.{List, ◌++◌}
use native.Mathlib.Omega.{arith}
use borrow.Author.Tests.{lt-ltb, le-ltb, ltb-true, ltb-false}
use lib.IntN.{ℤ, pos, ◌-ℤ◌, ◌*ℤ◌}
use Rattle.form.specs.Ruling.{Rule, ruling}
use Rattle.form.specs.Records.{filed}
use Rattle.form.specs.Sums.{column_k, column_l, cleared_above, sum_rules}
use Rattle.form.specs.Verdict.{block_rules, form_rules, rows, counts_of, Formed, verdict_by, verdict_of}
use Rattle.form.specs.declared.Counts.{Counts}
use Rattle.form.specs.Refusals.{Clean, Refused}
use Rattle.std.specs.Prelude.{Ok}
use Rattle.form.proofs.Order.{Kept, kept_of, append_kept, ruling-clean, kept-before, one_broken, one_kept}
use Rattle.form.proofs.Meaning.{broken_at}
use Rattle.standing.proofs.Accepted.{accepted-ruling}
use Rattle.areas.specs.Areas.{soil_rules}
use Rattle.wide.specs.Signs.{amount}
use Rattle.wide.proofs.Laws.{value_words}
use Rattle.wide.proofs.SignLaws.{minus_above, form-holds}
use Rattle.totals.specs.Masses.{dry_matter}
use Rattle.units.specs.Columns.{net_dry_matter, net_carbon, column_m, column_o}

-- the rules that add rows up, by the two columns
pub wood-clean : (harvest conversion : List (List ℕ)) → column_l conversion ≤ 100 * column_k harvest → cleared_above harvest conversion ≡ false
wood-clean harvest conversion h = le-ltb (100 * column_k harvest) (column_l conversion) h

module _ (s : List ℕ) where
  pub wood_good : (c : Counts) → verdict_of s ≡ Ok c → column_l (rows 1 s) ≤ 100 * column_k (rows 3 s)
  unfolding Kept
  wood_good c accepted =
      let sums = (append_kept (form_rules s) (sum_rules (filed s)) (ruling-clean (accepted-ruling s c accepted))).1 in
      ltb-false (100 * column_k (rows 3 s)) (column_l (rows 1 s)) (kept_of 12 sums 0 (omega arith))

  pub wood-refused : (p : ℕ) → verdict_of s ≡ Refused 12 p → (p ≡ 0) × (100 * column_k (rows 3 s) < column_l (rows 1 s))
  unfolding block_rules
  wood-refused p e =
      let b = broken_at s 12 e refl in
      (omega (arith, b.inside), ltb-true (100 * column_k (rows 3 s)) (column_l (rows 1 s)) b.broken)

  -- rules that are all kept, and behind them 12
  module _ (rs : List Rule) (clean : ruling rs ≡ Clean) where
    pub wood_passes : column_l (rows 1 s) ≤ 100 * column_k (rows 3 s) → ruling (rs ++ sum_rules (filed s)) ≡ ruling (soil_rules (filed s))
    wood_passes h = kept-before rs (sum_rules (filed s)) clean ∙ one_kept 12 _ (soil_rules (filed s)) (wood-clean (rows 3 s) (rows 1 s) h)

    pub wood-stops : 100 * column_k (rows 3 s) < column_l (rows 1 s) → ruling (rs ++ sum_rules (filed s)) ≡ Refused 12 0
    wood-stops h = kept-before rs (sum_rules (filed s)) clean ∙ one_broken 12 _ (soil_rules (filed s)) (lt-ltb (100 * column_k (rows 3 s)) (column_l (rows 1 s)) h)

-- M where no more is cleared than used, and O from it
module _ (k l : ℕ) (h : l ≤ 100 * k) where
  pub plain_m : column_m (dry_matter k) (dry_matter l) ≡ net_dry_matter (pos (100 * k - l))
  plain_m =
      ap net_dry_matter
      ((λ i. pos (100 * (value_words k).number i) -ℤ pos ((value_words l).number i)) ∙ sym (minus_above (100 * k) l h))

  pub plain_o : (n : ℕ) → column_o (column_m (dry_matter k) (dry_matter l)) n ≡ net_carbon (pos ((100 * k - l) * n))
  plain_o n = ap (λ m. column_o m n) plain_m ∙ ap (λ (z : ℤ). net_carbon (z *ℤ pos n)) (form-holds (pos (100 * k - l))).number
