-- "Together they equal a million times the sum of area times counted difference, for every accepted return, and the same holds of each row's five parts." Assumes nothing.
--     row-whole         of a row within its limits and rule 7; row-together, of its record
--     rows_whole        of such rows, by induction
--     return-whole      of a return that can be read row by row: return-together, of its record
use Prim.Native.Nat.{ℕ, suc, ◌+◌, ◌*◌, ◌<◌, ◌≤◌}
use mathlib.Core.Path.{◌≡◌, sym, ap, ◌∙◌}
use mathlib.Core.Bool.{false}
use mathlib.Core.List.{List, [], ◌∷◌}
use native.Mathlib.Nat.{mul-add}
use native.Mathlib.Omega.{arith}
use borrow.Author.Tests.{ltb-false}
use lib.Dec.{lit≤}
use lib.ListN.{length, get_or}
use Rattle.form.specs.Layout.{conversion, above_limit}
use Rattle.form.specs.Records.{onsite, onsite_oxidised, offsite, offsite_oxidised, decay, overspent}
use Rattle.form.specs.Sums.{sum_of}
use Rattle.form.specs.Verdict.{rows, Formed}
use Rattle.form.specs.declared.Counts.{Counts}
use Rattle.form.proofs.EachKind.{one_kind}
use Rattle.standing.proofs.Accepted.{rows-length, spent}
use Rattle.standing.proofs.Rows.{kept}
use Rattle.wide.proofs.Laws.{value_words}
use Rattle.totals.proofs.Limits.{onsites, offsites}
use Rattle.matter.specs.Matter.{lost_biomass, lost_total, left_by, oxidised_onsite_part, charcoal_onsite_part, oxidised_offsite_part, charcoal_offsite_part, unburned_part, oxidised_onsite, charcoal_onsite, oxidised_offsite, charcoal_offsite, unburned, row_matter, matter_of, together}

-- a fraction and what it leaves are the whole
parted : (x f : ℕ) → f ≤ 1000 → x * f + x * left_by f ≡ x * 1000
parted x f h = let e : f + left_by f ≡ 1000 = omega arith in sym (mul-add x f (left_by f)) ∙ ap (λ (n : ℕ). x * n) e

-- a row's fractions: those of what is burned, and both together
pub record Parted (r : List ℕ) : Type 0 where
  pub onsite_oxidised : onsite_oxidised r ≤ 1000
  pub offsite_oxidised : offsite_oxidised r ≤ 1000
  pub both : onsite r + offsite r ≤ 1000

pub fractions : (r : List ℕ) → above_limit conversion r ≡ false → overspent r ≡ false → Parted r
fractions r h s = record {
  onsite_oxidised = (onsites r h).1;
  offsite_oxidised = (offsites r h).1;
  both = omega (arith, ltb-false 1000 (onsite r + offsite r + decay r) s);
}

pub row-whole : (r : List ℕ) → Parted r → oxidised_onsite_part r + charcoal_onsite_part r + oxidised_offsite_part r + charcoal_offsite_part r + unburned_part r ≡ 1000000 * lost_biomass r
unfolding oxidised_onsite_part charcoal_onsite_part oxidised_offsite_part charcoal_offsite_part unburned_part
row-whole r p =
    let x = lost_biomass r in
    omega (
      arith,
      parted (x * onsite r) (onsite_oxidised r) p.onsite_oxidised,
      parted (x * offsite r) (offsite_oxidised r) p.offsite_oxidised,
      parted x (onsite r + offsite r) p.both,
      mul-add x (onsite r) (offsite r),
    )

pub row-together : (r : List ℕ) → Parted r → together (row_matter r) ≡ 1000000 * lost_biomass r
unfolding row_matter
row-together r p =
    omega (
      arith,
      row-whole r p,
      (value_words (oxidised_onsite_part r)).number,
      (value_words (charcoal_onsite_part r)).number,
      (value_words (oxidised_offsite_part r)).number,
      (value_words (charcoal_offsite_part r)).number,
      (value_words (unburned_part r)).number,
    )

pub rows_whole : (rs : List (List ℕ)) → ((j : ℕ) → j < length rs → Parted (get_or rs j []))
    → oxidised_onsite rs + charcoal_onsite rs + oxidised_offsite rs + charcoal_offsite rs + unburned rs ≡ 1000000 * lost_total rs
unfolding sum_of
rows_whole [] h = omega arith
rows_whole (r ∷ rs) h = omega (arith, row-whole r (h 0 (omega arith)), rows_whole rs (λ j l. h (suc j) (omega arith)))

module _ (s : List ℕ) (c : Counts) (acc : Formed s c) where
  -- each conversion row keeps its limits and rule 7
  pub row-parted : (i : ℕ) → i < length (rows 1 s) → Parted (get_or (rows 1 s) i [])
  row-parted i l = fractions _ (kept s c acc 1 i (lit≤ tt) one_kind l) (spent s c acc i (omega (arith, rows-length s c acc 1)))

  pub return-whole : let rs = rows 1 s in oxidised_onsite rs + charcoal_onsite rs + oxidised_offsite rs + charcoal_offsite rs + unburned rs ≡ 1000000 * lost_total rs
  return-whole = rows_whole (rows 1 s) row-parted

  pub return-together : together (matter_of (rows 1 s)) ≡ 1000000 * lost_total (rows 1 s)
  unfolding matter_of
  return-together =
      let rs = rows 1 s in
      omega (
        arith,
        return-whole,
        (value_words (oxidised_onsite rs)).number,
        (value_words (charcoal_onsite rs)).number,
        (value_words (oxidised_offsite rs)).number,
        (value_words (charcoal_offsite rs)).number,
        (value_words (unburned rs)).number,
      )
