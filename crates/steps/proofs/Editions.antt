-- What an accepted return says of its edition, and an edition 1 return of abandoned land, savannas, mineral soils and crop residues; and that 4 stops one above ten blocks. Assumes nothing.
use Prim.Native.Nat.{ℕ, ◌+◌, ◌/◌, ◌≤◌, ◌<◌}
use mathlib.Core.Path.{◌≡◌, refl, ap, ◌∙◌}
use mathlib.Core.Bool.{false}
use mathlib.Core.List.{List, [], ◌∷◌, ◌++◌}
use native.Mathlib.Decide.{dec_lt}
use native.Mathlib.Omega.{arith}
use lib.Dec.{lit≤}
use lib.IntN.{pos}
use lib.ListN.{length}
use Rattle.form.specs.First.{first}
use Rattle.form.specs.Ruling.{ruling}
use Rattle.form.specs.Layout.{kinds, parameters_kind}
use Rattle.form.specs.Edition.{last_kind}
use Rattle.form.specs.Block.{blocks, kind_of, edition, bad_length, bad_check, bad_header, bad_block}
use Rattle.form.specs.Records.{filed, record_rules}
use Rattle.form.specs.Sums.{sum_rules}
use Rattle.form.specs.Standing.{start_block}
use Rattle.form.specs.Verdict.{block_rules, form_rules, row_count, rows, Formed, verdict_by, verdict_of}
use Rattle.form.specs.Refusals.{Refused}
use Rattle.std.specs.Prelude.{None, Ok, Option, Some}
use Rattle.form.specs.declared.Counts.{Counts}
use Rattle.form.proofs.Search.{first_at, first_none}
use Rattle.form.proofs.Order.{Kept, AllKept, none, more, this, later, kept_of, append_kept, ruling-clean, least_ruling, ruled_before}
use Rattle.standing.proofs.Stand.{headed, Ordered, ordered, start_all, needed, lying, only_row}
use Rattle.standing.proofs.Accepted.{formed, formed_counts, whole-blocks, rows-length, no_rows}
use Rattle.form.specs.Sums.{sum_of}
use Rattle.wide.specs.Numbers.{value, words_of}
use Rattle.wide.specs.Rounding.{settled}
use Rattle.totals.specs.Masses.{carbon}
use Rattle.units.specs.Columns.{co2}
use Rattle.burning.specs.Released.{burned_by}
use Rattle.burning.specs.Gases.{gas, gases_of}
use Rattle.savannas.specs.Savannas.{savannas_of}
use Rattle.crops.specs.Crops.{crops_of}
use Rattle.soils.specs.Soils.{soil_gain, soil_change, all_stocks, soils_of}
use Rattle.worksheets.specs.Sheets.{abandoned_of, by_kind, figures_of}

none_left : (l : List (List ℕ)) → length l ≡ 0 → l ≡ []
none_left [] e = refl
none_left (x ∷ l) e = absurd (omega arith)

module _ (s : List ℕ) (c : Counts) (accepted : verdict_of s ≡ Ok c) where
  acc : Formed s c
  acc = formed s c accepted

  pub edition_told : c.edition ≡ edition s 0
  edition_told = ap (λ (x : Counts). x.edition) (formed_counts s c acc)

  module _ (one : edition s 0 ≡ 1) where
    no_row : row_count 5 s ≡ 0
    unfolding last_kind
    no_row = no_rows s c acc 5 (rw one (lit≤ tt))

    no_row_6 : row_count 6 s ≡ 0
    unfolding last_kind
    no_row_6 = no_rows s c acc 6 (rw one (lit≤ tt))

    no_row_7 : row_count 7 s ≡ 0
    unfolding last_kind
    no_row_7 = no_rows s c acc 7 (rw one (lit≤ tt))

    no_row_8 : row_count 8 s ≡ 0
    unfolding last_kind
    no_row_8 = no_rows s c acc 8 (rw one (lit≤ tt))

    pub no_land : c.abandoned ≡ 0
    no_land = ap (λ (x : Counts). x.abandoned) (formed_counts s c acc) ∙ no_row

    pub no_uptake : (figures_of (by_kind s)).abandoned ≡ record { uptake = carbon 0; co2 = co2 0 }
    unfolding abandoned_of sum_of settled value words_of
    no_uptake = rw (none_left (rows 5 s) (rows-length s c acc 5 ∙ no_row)) refl

    pub no_savanna : c.savanna ≡ 0
    no_savanna = ap (λ (x : Counts). x.savanna) (formed_counts s c acc) ∙ no_row_6

    pub no_fire : (figures_of (by_kind s)).savannas ≡ record { carbon = carbon 0; gases = record { ch4 = gas 0; co = gas 0; n2o = gas 0; nox = gas 0 } }
    unfolding savannas_of burned_by gases_of sum_of settled value words_of
    no_fire = rw (none_left (rows 6 s) (rows-length s c acc 6 ∙ no_row_6)) refl

    pub no_soil : c.soils ≡ 0
    no_soil = ap (λ (x : Counts). x.soils) (formed_counts s c acc) ∙ no_row_7

    pub no_change : (figures_of (by_kind s)).soils ≡ record { soil = soil_gain (pos 0); change = soil_change (pos 0) }
    unfolding soils_of all_stocks sum_of settled value words_of
    no_change = rw (none_left (rows 7 s) (rows-length s c acc 7 ∙ no_row_7)) refl

    pub no_crop : c.crops ≡ 0
    no_crop = ap (λ (x : Counts). x.crops) (formed_counts s c acc) ∙ no_row_8

    pub no_residue : (figures_of (by_kind s)).crops ≡ record { carbon = carbon 0; gases = record { ch4 = gas 0; co = gas 0; n2o = gas 0; nox = gas 0 } }
    unfolding crops_of burned_by gases_of sum_of settled value words_of
    no_residue = rw (none_left (rows 8 s) (rows-length s c acc 8 ∙ no_row_8)) refl

-- ---- "4 then stops an edition 1 return above ten"
module _ (s : List ℕ) (one : edition s 0 ≡ 1) where
  -- where 1 to 4 are kept, there are at most ten blocks
  module _ (kept : AllKept (block_rules s)) where
    in_order : Ordered s (blocks s)
    in_order = ordered s kept

    -- no row of a kind above 4
    none_above : (k : ℕ) → 4 < k → row_count k s ≡ 0
    unfolding block_rules Kept last_kind
    none_above k h = go (dec_lt 0 (row_count k s))
      where
        go : Dec (0 < row_count k s) → row_count k s ≡ 0
        go (yes l) =
            let p = lying s in_order k 0 l in
            let g = headed s (start_block k s + 0 / 12) (kept_of 3 kept (start_block k s + 0 / 12) p.below) in
            let q : kind_of s (start_block k s + 0 / 12) ≤ 4 = rw (g.alike, one) at g.high in
            absurd (omega (arith, p.kind))
        go (no l) = omega arith

    few : (k : ℕ) → row_count k s ≤ 32
    few k = (needed s in_order k (blocks s) (omega arith)).rows

    at_most_ten : 1 ≤ blocks s → blocks s ≤ 10
    unfolding kinds start_block
    at_most_ten h =
        omega (arith, start_all s in_order, few 1, few 2, few 3, only_row s in_order h, none_above 5 (omega arith), none_above 6 (omega arith), none_above 7 (omega arith), none_above 8 (omega arith))

  pub ten_blocks : (c : Counts) → verdict_of s ≡ Ok c → length s ≤ 5120
  ten_blocks c accepted =
      let f = formed s c accepted in
      let w = whole-blocks s c f in
      omega (arith, w, at_most_ten (append_kept (block_rules s) _ (ruling-clean f.clean)).0 w.0)

  module _ (length-kept : bad_length s ≡ false) (checks : (b : ℕ) → b < blocks s → bad_check s b ≡ false)
      (headers : (b : ℕ) → b < blocks s → bad_header s b ≡ false) where
    stopped : 10 < blocks s → (t : Option ℕ) → first (bad_block s) (blocks s) ≡ t → (p : ℕ) × (ruling (block_rules s) ≡ Refused 4 p)
    unfolding block_rules Kept
    stopped h (Some p) e =
        let f = first_at (bad_block s) e in
        (p, least_ruling (later (λ k l. length-kept) (later checks (later headers (this f.0 f.1 f.2)))))
    stopped h None e =
        let m = at_most_ten (more (λ k l. length-kept) (more checks (more headers (more (first_none (bad_block s) e) none)))) (omega arith) in
        absurd (omega arith)

    pub above_ten : 10 < blocks s → (p : ℕ) × (verdict_of s ≡ Refused 4 p)
    unfolding verdict_of
    above_ten h =
        let r = stopped h (first (bad_block s) (blocks s)) refl in
        let f : ruling (form_rules s) ≡ Refused 4 r.0 = ruled_before (block_rules s) (record_rules (edition s 0) (filed s)) r.1 in
        (r.0, ap (verdict_by s) (ruled_before (form_rules s) (sum_rules (filed s)) f))
