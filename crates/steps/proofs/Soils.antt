-- What rule 13 says of a return, and of rows to be written. Assumes nothing.
--     even_good, soil-refused    in an accepted return each soil type has as much land now as then; one that is refused 13 has the row at its place
--     soil_passes, soil-stops    which of the two it is, of any records
--     first-kept, first-rules    edition 1 has no soil rows: 13 is kept where 01's rules are, so behind them 12 is the last
--     written-even, unwritten_refused    the same of rows that were written, or refused 13
use Prim.Native.Nat.{ℕ, ◌≤◌}
use mathlib.Core.Path.{◌≡◌, refl, sym, ap, ap₂, subst, ◌∙◌}
use mathlib.Core.Bool.{true}
use mathlib.Core.List.{List, [], ◌∷◌, ◌++◌}
use native.Mathlib.Omega.{arith}
use lib.Dec.{lit≤}
use lib.ListN.{length}
use Rattle.form.specs.Ruling.{Rule, rule, ruling}
use Rattle.form.specs.Edition.{last_kind}
use Rattle.form.specs.Block.{edition}
use Rattle.form.specs.Records.{Filed, filed, filed_rows, record_rules}
use Rattle.form.specs.Sums.{soil_type, soil_uneven, cleared_above, sum_rules}
use Rattle.form.specs.Verdict.{block_rules, form_rules, rows, counts_of, Formed, verdict_of}
use Rattle.form.specs.FirstEdition.{rules01}
use Rattle.form.specs.declared.Counts.{Counts}
use Rattle.form.specs.Refusals.{Clean, Refused, Ruling}
use Rattle.std.specs.Prelude.{Ok, Err}
use Rattle.form.proofs.Order.{Kept, none, more, rule_of, apart, least_of, kept_of, append_kept, ruling-clean, ruling_least, clean-ruling, or_rule, ruling_append, ruled}
use Rattle.form.proofs.Meaning.{broken_at}
use Rattle.standing.proofs.Accepted.{accepted-ruling, no_rows}
use Rattle.standing.proofs.FirstEdition.{form_as_before}
use Rattle.filing.specs.Lists.{cut, filed_lists}
use Rattle.lists.specs.Rules.{list_rules}
use Rattle.areas.specs.Areas.{soil_rules}
use Rattle.areas.specs.Place.{Even, FirstOfLowest}
use Rattle.areas.proofs.Return.{no_soils}
use Rattle.areas.proofs.Balanced.{place_told, told_place, kept-even, even-kept}
use Rattle.rows.specs.Writing.{write_rules, written_by, write_answer}
use Rattle.rows.proofs.Return.{done_by}
use Rattle.steps.proofs.Told.{written_told}

module _ (s : List ℕ) where
  pub even_good : (c : Counts) → verdict_of s ≡ Ok c → Even (rows 7 s)
  unfolding Kept
  even_good c accepted =
      let sums = (append_kept (form_rules s) (sum_rules (filed s)) (ruling-clean (accepted-ruling s c accepted))).1 in
      kept-even (filed s) (kept_of 13 sums)

  pub soil-refused : (p : ℕ) → verdict_of s ≡ Refused 13 p → FirstOfLowest (filed s) p (soil_type ((filed s).row p))
  unfolding block_rules
  soil-refused p e = place_told (filed s) (broken_at s 13 e refl)

module _ (f : Filed) where
  pub soil_passes : Even (filed_rows f 7) → ruling (soil_rules f) ≡ Clean
  unfolding Kept
  soil_passes h = clean-ruling (more (λ j l. even-kept f h j) none)

  pub soil-stops : {p t : ℕ} → FirstOfLowest f p t → ruling (soil_rules f) ≡ Refused 13 p
  soil-stops w = sym (ruled (rule 13 f.places (soil_uneven f)) [] (told_place f w))

-- ---- edition 1

abbrev wood : List ℕ → List Rule
wood s = rule 12 1 (λ p. cleared_above (rows 3 s) (rows 1 s)) ∷ []

or_none : (u : Ruling) → or_rule u Clean ≡ u
or_none Clean = refl
or_none (Err r) = refl

module _ (s : List ℕ) (one : edition s 0 ≡ 1) (short : length s ≤ 5120) where
  pub first-kept : ruling (rules01 s) ≡ Clean → ruling (soil_rules (filed s)) ≡ Clean
  unfolding last_kind
  first-kept clean =
      let f : Formed s (counts_of s) = record { clean = form_as_before s one short ∙ clean; counts = refl } in
      sym (no_soils s (counts_of s) f (no_rows s (counts_of s) f 7 (rw one (lit≤ tt))))

  last_by : (u : Ruling) → ruling (rules01 s) ≡ u → or_rule u (ruling (sum_rules (filed s))) ≡ or_rule u (ruling (wood s))
  last_by Clean e = ruling_append (wood s) (soil_rules (filed s)) ∙ ap (or_rule (ruling (wood s))) (first-kept e) ∙ or_none (ruling (wood s))
  last_by (Err r) e = refl

  pub first-rules : ruling (rules01 s ++ sum_rules (filed s)) ≡ ruling (rules01 s ++ wood s)
  first-rules =
      ruling_append (rules01 s) (sum_rules (filed s)) ∙ last_by (ruling (rules01 s)) refl ∙ sym (ruling_append (rules01 s) (wood s))

-- ---- rows to be written

module _ (ed : ℕ) (lengths area room : List ℕ) where
  abbrev lists : Filed
  lists = filed_lists (cut lengths area)

  pub written-even : {n : ℕ} → write_answer ed lengths area room ≡ Ok n → Even (filed_rows lists 7)
  unfolding write_answer list_rules Kept
  written-even e =
      let clean = (done_by ed (cut lengths area) (ruling (write_rules ed lengths area room)) e).0 in
      kept-even lists (kept_of 13 (ruling-clean clean))

  pub unwritten_refused : {p : ℕ} → write_answer ed lengths area room ≡ Refused 13 p → FirstOfLowest lists p (soil_type (lists.row p))
  unfolding write_answer list_rules
  unwritten_refused {p} e =
      let broken : ruling (write_rules ed lengths area room) ≡ Refused 13 p = written_told ed (cut lengths area) (ruling (write_rules ed lengths area room)) (Refused 13 p) e in
      place_told lists (least_of refl (ruling_least broken))
