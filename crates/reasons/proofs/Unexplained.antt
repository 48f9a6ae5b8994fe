-- What a reason says is never so of a return that is accepted. Assumes nothing.
--     unexplained    case by case, since the rule of its number is kept
use Prim.Native.Nat.{ℕ, ◌+◌, ◌*◌, ◌<◌}
use mathlib.Core.Path.{◌≡◌, sym, ap, ◌∙◌}
use mathlib.Core.Bool.{true, false, not, ◌&&◌, false≢true}
use mathlib.Core.List.{List}
use native.Mathlib.Omega.{arith}
use borrow.Author.Tests.{eq-eqb, eqb-false, ltb-false, not-true}
use lib.Dec.{ltb, leb, eqb}
use Rattle.form.specs.Layout.{field, kinds, parameters_kind, layout, above_limit}
use Rattle.form.specs.Block.{blocks, edition, check_said, check_due, bad_length, bad_check, bad_header, bad_block}
use Rattle.form.specs.Records.{filed, has_id, unit_code, bad_id, broken_by, field_above, scattered_trees, fractions_above, overspent, onsite, offsite, decay}
use Rattle.form.specs.Sums.{column_k, column_l, cleared_above, soil_uneven}
use Rattle.form.specs.Verdict.{block_rules, rules, rows, verdict_of}
use Rattle.form.specs.declared.Counts.{Counts}
use Rattle.std.specs.Prelude.{Ok}
use Rattle.form.proofs.Tests.{and-true, and_rest, same_of}
use Rattle.form.proofs.Order.{Kept, rule_of, ruling-clean, kept_of}
use Rattle.standing.proofs.Accepted.{accepted-ruling, limit_of}
use Rattle.areas.proofs.Balanced.{kept-even}
use Rattle.faults.proofs.First.{faulty_bad}
use Rattle.reasons.specs.declared.Reason.{Reason}
use Rattle.reasons.specs.Explains.{Explains, length_1, check_2, header_3, block_4, ids_5, field_6, fractions_7, wood_12, soils_13, trees_14}
use Rattle.reasons.proofs.Rows.{id_broken}

-- a kind with an id is another than the parameters'
not_parameters : (k : ℕ) → has_id k ≡ true → k ≡ parameters_kind → ⊥
not_parameters k h =
    eqb-false k parameters_kind (not-true (eqb k parameters_kind) (and-true (leb k kinds) _ (and-true (ltb 0 k) _ h).1).1)

module _ (s : List ℕ) {c : Counts} (acc : verdict_of s ≡ Ok c) where
  kept : (n : ℕ) → Kept (rule_of n (rules s))
  kept n = kept_of n (ruling-clean (accepted-ruling s c acc))

  length-kept : bad_length s ≡ false
  unfolding block_rules Kept
  length-kept = kept 1 0 (omega arith)

  check-kept : (b : ℕ) → b < blocks s → bad_check s b ≡ false
  unfolding block_rules Kept
  check-kept = kept 2

  header_kept : (b : ℕ) → b < blocks s → bad_header s b ≡ false
  unfolding block_rules Kept
  header_kept = kept 3

  block_kept : (b : ℕ) → b < blocks s → bad_block s b ≡ false
  unfolding block_rules Kept
  block_kept = kept 4

  ids_kept : (j : ℕ) → j < 12 * blocks s → bad_id (filed s) j ≡ false
  unfolding block_rules Kept
  ids_kept = kept 5

  field-kept : (j : ℕ) → j < 12 * blocks s → broken_by (filed s) (edition s 0) field_above j ≡ false
  unfolding block_rules Kept
  field-kept = kept 6

  fractions_kept : (j : ℕ) → j < 12 * blocks s → broken_by (filed s) (edition s 0) fractions_above j ≡ false
  unfolding block_rules Kept
  fractions_kept = kept 7

  wood-kept : cleared_above (rows 3 s) (rows 1 s) ≡ false
  unfolding block_rules Kept
  wood-kept = kept 12 0 (omega arith)

  soil-kept : (j : ℕ) → j < 12 * blocks s → soil_uneven (filed s) j ≡ false
  unfolding block_rules Kept
  soil-kept = kept 13

  trees-kept : (j : ℕ) → j < 12 * blocks s → broken_by (filed s) (edition s 0) scattered_trees j ≡ false
  unfolding block_rules Kept
  trees-kept = kept 14

  pub unexplained : {r : Reason} → Explains s r → ⊥
  unfolding bad_check broken_by
  unexplained (length_1 h) = false≢true (sym length-kept ∙ h)
  unexplained (check_2 b i h) = h (same_of (check_said s b) (check_due s b) (check-kept b i))
  unexplained (header_3 b i h) = false≢true (sym (header_kept b i) ∙ h)
  unexplained (block_4 b f i h) = false≢true (sym (block_kept b i) ∙ faulty_bad s b h)
  unexplained (ids_5 w t z h k l) =
      let p = w.place in
      let id = t.id_there (not_parameters w.kind h) in
      false≢true (sym (ids_kept p t.inside) ∙ id_broken (filed s) p t.used_there (ap has_id (sym t.kind_there) ∙ h) z (k ∙ t.kind_there) (omega (arith, id, l)))
  unexplained (field_6 w a t f) =
      let p = w.place in
      let none = and_rest ((filed s).used p) _ t.used_there (field-kept p t.inside) in
      let low = limit_of (layout w.kind) ((filed s).row p) a.field (field 0 0 0) f.field_there (ap (λ (k : ℕ). above_limit (layout k) ((filed s).row p)) t.kind_there ∙ none) in
      absurd (omega (arith, low, f.value_there, f.limit_there, f.too_high))
  unexplained (fractions_7 w t k h) =
      let p = w.place in
      let none = and_rest ((filed s).used p) _ t.used_there (fractions_kept p t.inside) in
      let spent = and_rest (eqb ((filed s).kind p) 1) (overspent ((filed s).row p)) (eq-eqb ((filed s).kind p) 1 (sym t.kind_there ∙ k)) none in
      let r = (filed s).row p in
      absurd (omega (arith, ltb-false 1000 (onsite r + offsite r + decay r) spent, h))
  unexplained (wood_12 h) = absurd (omega (arith, ltb-false (100 * column_k (rows 3 s)) (column_l (rows 1 s)) wood-kept, h))
  unexplained (soils_13 w t r f) = f.differ (kept-even (filed s) soil-kept t)
  unexplained (trees_14 w t k c e) =
      let p = w.place in
      let none = and_rest ((filed s).used p) _ t.used_there (trees-kept p t.inside) in
      let stock = and_rest (eqb (edition s 0) 3) _ (eq-eqb (edition s 0) 3 e) none in
      let code = and_rest (eqb ((filed s).kind p) 2) _ (eq-eqb ((filed s).kind p) 2 (sym t.kind_there ∙ k)) stock in
      eqb-false (unit_code ((filed s).row p)) 1 code c
