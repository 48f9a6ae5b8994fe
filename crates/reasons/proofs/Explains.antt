-- What a reason says of the bytes, of every refusal. Assumes nothing.
--     explains       its values are those at the place, by the rule that is broken there
--     reason_told    its number and its place are the refusal's
--     no_fourth      a block that is refused is never told to be the fourth of its kind
use Prim.Native.Nat.{ℕ, ◌*◌, ◌/◌, ◌%◌, ◌<◌}
use mathlib.Core.Path.{◌≡◌, refl, sym, ap, ap₂, subst, ◌∙◌}
use mathlib.Core.Bool.{true, false}
use mathlib.Core.List.{List}
use native.Mathlib.Omega.{arith}
use borrow.Author.Tests.{ltb-true, eqb-true, eqb-false, not-true}
use lib.Dec.{eqb}
use lib.ListN.{length}
use Rattle.form.specs.Layout.{layout}
use Rattle.form.specs.Block.{blocks, edition, record_at, bad_check, check_said, check_due, bad_block}
use Rattle.form.specs.Records.{filed, broken_by, overspent}
use Rattle.form.specs.Sums.{column_k, column_l, soil_type}
use Rattle.form.specs.Verdict.{rows, verdict_of}
use Rattle.form.specs.Refusals.{Clean, Refused, Ruling}
use Rattle.std.specs.Prelude.{Err}
use Rattle.form.proofs.Tests.{and-true, either}
use Rattle.form.proofs.Tables.{id_number}
use Rattle.form.proofs.SecondEdition.{first-scattered}
use Rattle.areas.proofs.Balanced.{place_told}
use Rattle.faults.specs.declared.Fault.TheVariants.{Fourth}
use Rattle.faults.specs.Faults.{fault_of, Faulty, fourth}
use Rattle.faults.proofs.First.{first-fault}
use Rattle.faults.proofs.Fourth.{never_fourth}
use Rattle.reasons.specs.declared.Header.{Header}
use Rattle.reasons.specs.declared.Reason.{Reason}
use Rattle.reasons.specs.declared.Reason.TheVariants.{BadLength, BadBlock}
use Rattle.reasons.specs.Above.{above_from}
use Rattle.reasons.specs.Reasons.{refusal_of, check_reason, header_reason, block_reason, row_named, id_reason, limit_reason, fractions_reason, wood_reason, soil_reason, trees_reason, reason_of}
use Rattle.reasons.specs.Explains.{RowStands, Explains, length_1, check_2, header_3, block_4, ids_5, field_6, fractions_7, wood_12, soils_13, trees_14}
use Rattle.reasons.proofs.Above.{above_there}
use Rattle.reasons.proofs.Rows.{id_used, id_parts, id_order, row-stands}
use Rattle.reasons.proofs.Refused.{at_length, at_check, at_header, at_block, at_id, at_field, at_fractions, at_wood, at_soil, at_trees, last-number, known-kinds}

-- the number that a ruling refuses by
abbrev number_said : Ruling → ℕ
number_said Clean = 0
number_said (Err r) = r.number

module _ (s : List ℕ) {n p : ℕ} (e : verdict_of s ≡ Refused n p) where
  -- what is shown of the reason of each number is so of the refusal's
  by_number : (P : Reason → Type 0) → (n ≡ 1 → P (BadLength (length s))) → (n ≡ 2 → P (check_reason s p)) → (n ≡ 3 → P (header_reason s p)) → (n ≡ 4 → P (block_reason s p))
      → (n ≡ 5 → P (id_reason s p)) → (n ≡ 6 → P (limit_reason s p)) → (n ≡ 7 → P (fractions_reason s p)) → (n ≡ 12 → P (wood_reason s)) → (n ≡ 14 → P (trees_reason s p)) → (n ≡ 13 → P (soil_reason s p))
      → P (reason_of s n p)
  unfolding reason_of
  by_number P one two three four five six seven twelve fourteen thirteen =
      either P (eqb n 1) (λ q. one (eqb-true n 1 q)) (λ a.
      either P (eqb n 2) (λ q. two (eqb-true n 2 q)) (λ b.
      either P (eqb n 3) (λ q. three (eqb-true n 3 q)) (λ c.
      either P (eqb n 4) (λ q. four (eqb-true n 4 q)) (λ d.
      either P (eqb n 5) (λ q. five (eqb-true n 5 q)) (λ f.
      either P (eqb n 6) (λ q. six (eqb-true n 6 q)) (λ g.
      either P (eqb n 7) (λ q. seven (eqb-true n 7 q)) (λ h.
      either P (eqb n 12) (λ q. twelve (eqb-true n 12 q)) (λ i.
      either P (eqb n 14) (λ q. fourteen (eqb-true n 14 q)) (λ j. thirteen (last-number s e a b c d f g h i j))))))))))

  -- the row that a number behind 3 names
  row_of_lem : {m : ℕ} → n ≡ m → 3 < m → p < 12 * blocks s → (filed s).used p ≡ true → RowStands s (row_named s p)
  row_of_lem q d i u = row-stands s p i u (known-kinds s e (omega (arith, q, d)) p i)

  pub explains : Explains s (reason_of s n p)
  unfolding bad_check broken_by
  explains =
      by_number (Explains s)
      (λ q. length_1 (at_length s e q).broken)
      (λ q. let w = at_check s e q in check_2 p w.inside (eqb-false (check_said s p) (check_due s p) (not-true (eqb (check_said s p) (check_due s p)) w.broken)))
      (λ q. let w = at_header s e q in header_3 p w.inside w.broken)
      (λ q. let w = at_block s e q in block_4 p (fault_of s p) w.inside (first-fault s p w.broken))
      (λ q.
      let w = at_id s e q in
      let i = id_parts (filed s) p w.broken in
      let id = id_number ((filed s).kind p) s (record_at (p / 12) (p % 12)) i.0 in
      let row = row_of_lem q (omega arith) w.inside (id_used (filed s) p w.broken) in
      ids_5 (row_named s p) row i.1 i.0 i.2 (omega (arith, id, id_order (filed s) p w.broken)))
      (λ q.
      let w = at_field s e q in
      let k = layout ((filed s).kind p) in
      let b = and-true ((filed s).used p) _ w.broken in
      field_6 (row_named s p) (above_from 0 k ((filed s).row p)) (row_of_lem q (omega arith) w.inside b.0) (above_there k ((filed s).row p) b.1))
      (λ q.
      let w = at_fractions s e q in
      let u = and-true ((filed s).used p) _ w.broken in
      let b = and-true (eqb ((filed s).kind p) 1) (overspent ((filed s).row p)) u.1 in
      fractions_7 (row_named s p) (row_of_lem q (omega arith) w.inside u.0) (eqb-true ((filed s).kind p) 1 b.0) (ltb-true 1000 _ b.1))
      (λ q. wood_12 (omega (arith, ltb-true (100 * column_k (rows 3 s)) (column_l (rows 1 s)) (at_wood s e q).broken)))
      (λ q.
      let t = first-scattered (edition s 0) (filed s) p (at_trees s e q) in
      trees_14 (row_named s p) (row_of_lem q (omega arith) t.inside t.used_there) t.stock-row t.code_1 t.edition_3)
      (λ q.
      let w = place_told (filed s) (at_soil s e q) in
      soils_13 (row_named s p) (soil_type ((filed s).row p)) (row_of_lem q (omega arith) w.inside w.used_there) w)

  pub reason_told : refusal_of (reason_of s n p) ≡ Refused n p
  reason_told =
      by_number (λ r. refusal_of r ≡ Refused n p)
      (λ q. ap₂ Refused (sym q) (omega (arith, (at_length s e q).inside)))
      told
      told
      told
      told
      told
      told
      (λ q. ap₂ Refused (sym q) (omega (arith, (at_wood s e q).inside)))
      told
      told
    where
      told : {m : ℕ} → n ≡ m → Refused {A = Unit {0}} m p ≡ Refused n p
      told q = ap (λ (x : ℕ). Refused x p) (sym q)

  -- ---- `fourth` is never the first fault of a return
  fourth_only : {b : ℕ} → b < blocks s → ((k : ℕ) → k < b → bad_block s k ≡ false) → Faulty s b Fourth → ⊥
  fourth_only {b} l o (fourth falls ends four) = never_fourth s b l o falls four

  pub no_fourth : {b : ℕ} {h : Header} → reason_of s n p ≡ BadBlock b h Fourth → ⊥
  unfolding reason_of
  no_fourth {b} {h} d =
      let z : Refused n p ≡ Refused 4 b = sym reason_told ∙ ap refusal_of d in
      let q : n ≡ 4 = ap number_said z in
      let w = at_block s e q in
      let g : block_reason s p ≡ BadBlock b h Fourth = subst (λ (x : ℕ). reason_of s x p ≡ BadBlock b h Fourth) q d in
      let f : fault_of s p ≡ Fourth = cc in
      fourth_only w.inside w.lowest (subst (Faulty s p) f (first-fault s p w.broken))
