-- The soil rows of a return, and of lists to be written: which they are, and rule 13 of them. Assumes nothing.
--     soils_decoded, return-ruling, no_soils    of a return; soils-place, where they stand; stored-rows, decoded to the front of a room
--     lists-ruling     of lists; soils-part, the part of the area that is theirs
use Prim.Native.Nat.{ℕ, ◌+◌, ◌-◌, ◌*◌, ◌≤◌, ◌<◌}
use mathlib.Core.Path.{◌≡◌, refl, sym, ap, ap₂, ◌∙◌}
use mathlib.Core.List.{List, [], ◌∷◌, flatten}
use native.Mathlib.Omega.{arith}
use lib.ListN.{length, get_or, take, drop}
use lib.Seq.{sets}
use Rattle.form.specs.First.{first}
use Rattle.form.specs.Layout.{kinds}
use Rattle.form.specs.Ruling.{ruling}
use Rattle.form.specs.Records.{filed, filed_rows}
use Rattle.form.specs.Verdict.{row_count, rows, Formed}
use Rattle.form.specs.Standing.{first_block, start_place}
use Rattle.form.specs.declared.Counts.{Counts}
use Rattle.form.specs.Refusals.{Clean}
use Rattle.form.proofs.EachKind.{kinds_are}
use Rattle.standing.proofs.Accepted.{counted, first_block_lem, rows-length, few_rows}
use Rattle.standing.proofs.Lines.{formed_line}
use Rattle.filing.specs.Lists.{cut, total, filed_lists}
use Rattle.filing.specs.Written.{in_turn}
use Rattle.filing.specs.Tables.{row_on}
use Rattle.filing.proofs.Stores.{sets-read}
use Rattle.decoding.proofs.Decoded.{rows_turn, rows_long, decoded_rows}
use Rattle.lists.specs.Rules.{Good, blocks_from}
use Rattle.lists.proofs.KindRows.{Part, kind-part}
use Rattle.areas.specs.Areas.{soils_in, soil_rules, ruled_from}
use Rattle.areas.proofs.Places.{line-ruling, unwritten_line}

-- soil rows are the seventh kind
pub seventh : 6 < kinds
seventh = omega (arith, kinds_are)

module _ (s : List ℕ) (c : Counts) (acc : Formed s c) where
  pub soils-count : c.soils ≡ row_count 7 s
  soils-count = counted s c acc 6 seventh

  pub soils_few : c.soils ≤ 32
  soils_few = omega (arith, soils-count, few_rows s c acc 7)

  pub soils-place : {first : ℕ} → first ≡ first_block 7 c → 12 * first ≡ start_place 7 s
  soils-place e = ap (λ (b : ℕ). 12 * b) (e ∙ first_block_lem s c acc 7 (omega (arith, seventh)))

  pub soils_decoded : {r : List ℕ} → r ≡ flatten (rows 7 s) → soils_in r ≡ rows 7 s
  soils_decoded e = ap (λ (x : List ℕ). soils_in x) e ∙ decoded_rows s c acc 6 seventh

  pub return-ruling : {first : ℕ} → first ≡ first_block 7 c → ruled_from (12 * first) (rows 7 s) ≡ ruling (soil_rules (filed s))
  return-ruling e = ap (λ (p : ℕ). ruled_from p (rows 7 s)) (soils-place e) ∙ sym (line-ruling (formed_line s c acc 6 seventh))

  none_uneven : (p : ℕ) (soils : List (List ℕ)) → length soils ≡ 0 → Clean ≡ ruled_from p soils
  unfolding first
  none_uneven p [] e = refl
  none_uneven p (r ∷ rs) e = absurd (omega arith)

  pub no_soils : c.soils ≡ 0 → Clean ≡ ruling (soil_rules (filed s))
  no_soils e =
      none_uneven (start_place 7 s) (rows 7 s) (rows-length s c acc 7 ∙ sym soils-count ∙ e)
      ∙ sym (line-ruling (formed_line s c acc 6 seventh))

-- the rows stored at the front of a room
module _ (s : List ℕ) (c : Counts) (acc : Formed s c) where
  turns : {first : ℕ} → first ≡ first_block 7 c → in_turn (row_on 7 s) (12 * first) c.soils ≡ flatten (rows 7 s)
  turns e = ap₂ (λ (p n : ℕ). in_turn (row_on 7 s) p n) (soils-place s c acc e) (soils-count s c acc) ∙ rows_turn s c acc 6 seventh

  pub stored-rows : (d : List ℕ) {first : ℕ} {d' : List ℕ} → first ≡ first_block 7 c → d' ≡ sets d 0 (in_turn (row_on 7 s) (12 * first) c.soils) → 9 * c.soils ≤ length d
      → take (9 * c.soils) d' ≡ flatten (rows 7 s)
  stored-rows d {first} e w h =
      ap (take (9 * c.soils)) w
      ∙ sets-read d 0 (in_turn (row_on 7 s) (12 * first) c.soils) (ap length (turns e) ∙ rows_long s c acc 6 seventh ∙ ap (λ (n : ℕ). 9 * n) (sym (soils-count s c acc))) (omega arith)
      ∙ turns e

-- a part from the front
pub front-part : (n : ℕ) (d : List ℕ) {r : List ℕ} → take n d ≡ r → take (n - 0) (drop 0 d) ≡ r
front-part n d e = let z : n - 0 ≡ n = omega arith in rw z e

module _ (lengths area : List ℕ) (g : Good lengths (length area)) where
  pub has_seven : 6 < length lengths
  has_seven = omega (arith, g.each, seventh)

  module _ {from m : ℕ} (at : from ≡ total (take 6 lengths)) (e : m ≡ get_or lengths 6 0) where
    pub soils-part : Part lengths area 7 from (from + m)
    soils-part = kind-part lengths area g 6 seventh at e

    pub lists-ruling : {b : ℕ} → b ≡ blocks_from 1 (take 6 lengths)
        → ruled_from (12 * b) (soils_in (take (from + m - from) (drop from area))) ≡ ruling (soil_rules (filed_lists (cut lengths area)))
    lists-ruling {b} eb =
        ap (ruled_from (12 * b)) soils-part.rows
        ∙ ap (λ (x : ℕ). ruled_from (12 * x) (filed_rows (filed_lists (cut lengths area)) 7)) eb
        ∙ sym (line-ruling (unwritten_line 1 lengths area 6 has_seven (omega (arith, g.all))))
