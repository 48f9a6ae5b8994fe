-- How large the five masses are. Assumes nothing.
--     row_most, rows-most   at most 10^16 of a row, and 3.2 x 10^17 of a return, which is one word
--     most_le               a larger bound
--     matter_added          what the rows add up to
use Prim.Native.Nat.{ℕ, ◌+◌, ◌*◌, ◌^◌, ◌<◌, ◌≤◌}
use mathlib.Core.Path.{◌≡◌, refl, ap}
use mathlib.Core.Bool.{false}
use mathlib.Core.List.{List, []}
use native.Mathlib.Numerals.{bound}
use native.Mathlib.Omega.{arith}
use lib.Dec.{lit<, lit≤}
use lib.ListN.{length, take, get_or}
use Rattle.form.specs.Layout.{field, conversion, above_limit}
use Rattle.form.specs.Records.{before, after}
use Rattle.form.specs.Sums.{sum_of}
use Rattle.form.specs.Verdict.{rows, Formed}
use Rattle.form.specs.declared.Counts.{Counts}
use Rattle.form.proofs.EachKind.{one_kind}
use Rattle.form.proofs.Periods.{counted_le}
use Rattle.standing.proofs.Accepted.{limit_of}
use Rattle.wide.specs.Numbers.{value, words_of}
use Rattle.wide.proofs.Laws.{value_words}
use Rattle.totals.specs.Masses.{dry_matter}
use Rattle.totals.specs.Laws.{amounts}
use Rattle.totals.specs.RowSums.{added_up}
use Rattle.totals.proofs.Accepted.{small}
use Rattle.totals.proofs.RowSums.{comes_to}
use Rattle.totals.proofs.Limits.{period, onsites, offsites}
use Rattle.totals.proofs.Sums.{sum-next}
use Rattle.matter.specs.Matter.{lost_biomass, left_by, oxidised_onsite_part, charcoal_onsite_part, oxidised_offsite_part, charcoal_offsite_part, unburned_part, row_matter, matter_of, no_matter, plus_matter, MatterMost}
use Rattle.matter.specs.declared.Matter.{Matter}

-- an area by a density, and biomass by two fractions
area_by : (a d : ℕ) → a ≤ 1000000 → d ≤ 10000 → a * d ≤ 10 ^ 10
area_by a d ha hd = grw (bound, ha, hd) (lit≤ tt)

pub two_fractions : (x f g : ℕ) → x ≤ 10 ^ 10 → f ≤ 1000 → g ≤ 1000 → x * f * g ≤ 10 ^ 16
two_fractions x f g hx hf hg = grw (bound, hx, hf, hg) (lit≤ tt)

pub left_le : (f : ℕ) → left_by f ≤ 1000
left_le f = omega arith

module _ (r : List ℕ) (h : above_limit conversion r ≡ false) where
  pub biomass-below : lost_biomass r ≤ 10 ^ 10
  unfolding lost_biomass
  biomass-below = let p = period r h in area_by _ _ p.0 (omega (arith, p.1, limit_of conversion r 3 (field 0 0 0) (lit< tt) h, counted_le (before r) (after r)))

  pub oxidised_onsite-below : oxidised_onsite_part r ≤ 10 ^ 16
  unfolding oxidised_onsite_part
  oxidised_onsite-below = two_fractions _ _ _ biomass-below (onsites r h).0 (onsites r h).1

  pub charcoal_onsite-below : charcoal_onsite_part r ≤ 10 ^ 16
  unfolding charcoal_onsite_part
  charcoal_onsite-below = two_fractions _ _ _ biomass-below (onsites r h).0 (left_le _)

  pub oxidised_offsite-below : oxidised_offsite_part r ≤ 10 ^ 16
  unfolding oxidised_offsite_part
  oxidised_offsite-below = two_fractions _ _ _ biomass-below (offsites r h).0 (offsites r h).1

  pub charcoal_offsite-below : charcoal_offsite_part r ≤ 10 ^ 16
  unfolding charcoal_offsite_part
  charcoal_offsite-below = two_fractions _ _ _ biomass-below (offsites r h).0 (left_le _)

  pub unburned-below : unburned_part r ≤ 10 ^ 16
  unfolding unburned_part
  unburned-below = two_fractions _ _ _ biomass-below (left_le _) (lit≤ tt)

  pub row_most : MatterMost (10 ^ 16) (row_matter r)
  unfolding row_matter
  row_most = record {
    onsite = (omega (arith, oxidised_onsite-below, (value_words (oxidised_onsite_part r)).number), omega (arith, charcoal_onsite-below, (value_words (charcoal_onsite_part r)).number));
    offsite = (omega (arith, oxidised_offsite-below, (value_words (oxidised_offsite_part r)).number), omega (arith, charcoal_offsite-below, (value_words (charcoal_offsite_part r)).number));
    unburned = omega (arith, unburned-below, (value_words (unburned_part r)).number);
  }

-- a larger bound
pub most_le : {a b : ℕ} {m : Matter} → MatterMost a m → a ≤ b → MatterMost b m
most_le p l = record { onsite = (omega (arith, p.onsite.0), omega (arith, p.onsite.1)); offsite = (omega (arith, p.offsite.0), omega (arith, p.offsite.1)); unburned = omega (arith, p.unburned) }

-- what the rows add up to
one_row : (rs : List (List ℕ)) (i : ℕ) → i < length rs → plus_matter (matter_of (take i rs)) (row_matter (get_or rs i [])) ≡ matter_of (take (i + 1) rs)
unfolding plus_matter matter_of row_matter
one_row rs i l = λ j. record {
  onsite = record { oxidised = more oxidised_onsite_part j; charcoal = more charcoal_onsite_part j };
  offsite = record { oxidised = more oxidised_offsite_part j; charcoal = more charcoal_offsite_part j };
  unburned = more unburned_part j;
}
  where
    more : (f : List ℕ → ℕ) → dry_matter (value (words_of (sum_of f (take i rs))) + value (words_of (f (get_or rs i [])))) ≡ dry_matter (sum_of f (take (i + 1) rs))
    more f = ap dry_matter (omega (arith, amounts (sum_of f (take i rs)), amounts (f (get_or rs i [])), sum-next f rs i l))

none_yet : no_matter ≡ matter_of []
unfolding matter_of sum_of
none_yet = refl

pub matter_added : (rs : List (List ℕ)) → added_up no_matter plus_matter row_matter rs ≡ matter_of rs
matter_added rs = comes_to plus_matter row_matter matter_of rs none_yet (one_row rs)

module _ (s : List ℕ) (c : Counts) (acc : Formed s c) where
  -- 32 rows
  all_most : (f : List ℕ → ℕ) → ((r : List ℕ) → above_limit conversion r ≡ false → f r ≤ 10 ^ 16) → value (words_of (sum_of f (rows 1 s))) ≤ 32 * 10 ^ 16
  all_most f h = omega (arith, small s c acc 1 f (10 ^ 16) (lit≤ tt) one_kind h, amounts (sum_of f (rows 1 s)))

  pub return_most : MatterMost (32 * 10 ^ 16) (matter_of (rows 1 s))
  unfolding matter_of
  return_most = record {
    onsite = (all_most oxidised_onsite_part oxidised_onsite-below, all_most charcoal_onsite_part charcoal_onsite-below);
    offsite = (all_most oxidised_offsite_part oxidised_offsite-below, all_most charcoal_offsite_part charcoal_offsite-below);
    unburned = all_most unburned_part unburned-below;
  }
