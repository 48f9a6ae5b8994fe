-- What a refusal says of its place, by its number: the rule's place, broken there and at no lower one. Assumes nothing.
--     at_length to at_trees    for each number; a new number is a new entry
--     last-number             a number that is none of 1 to 7, 12 and 14 is 13
--     known-kinds             behind number 3 every record is of a kind that there is
--     wood_formed, soil_formed    where 12 or 13 is given, the return can be read row by row
use Rattle.std.specs.Prelude.{Err}
use Prim.Native.Nat.{ℕ, ◌*◌, ◌/◌, ◌<◌, ◌≤◌}
use mathlib.Core.Path.{◌≡◌, refl, sym, ◌∙◌}
use mathlib.Core.Bool.{false, or-false, false≢true}
use mathlib.Core.List.{List}
use native.Mathlib.Omega.{arith}
use borrow.Author.Tests.{eqb-true}
use lib.Dec.{eqb}
use Rattle.form.specs.Ruling.{Rule, rule, ruling}
use Rattle.form.specs.Layout.{kinds}
use Rattle.form.specs.Block.{blocks, edition, bad_length, bad_check, bad_header, bad_block}
use Rattle.form.specs.Records.{filed, bad_id, broken_by, field_above, scattered_trees, fractions_above}
use Rattle.form.specs.Sums.{cleared_above, soil_uneven, sum_rules}
use Rattle.form.specs.Verdict.{block_rules, form_rules, rules, rows, counts_of, Formed, verdict_of}
use Rattle.form.specs.Refusals.{Clean, Refused, Ruling}
use Rattle.form.proofs.Order.{Kept, Least, this, later, has, BrokenAt, or_rule, ruling_append, ruling_least, least_has}
use Rattle.form.proofs.Meaning.{refused-ruling, refused, broken_at, given-number}
use Rattle.form.proofs.EachKind.{last-kinds}
use Rattle.standing.proofs.Stand.{headed}

-- no header is at fault where a later rule is
headers_kept : (s : List ℕ) {n p : ℕ} → Least (rules s) n p → 3 < n → (b : ℕ) → b < blocks s → bad_header s b ≡ false
unfolding block_rules Kept
headers_kept s (this l e h) d b i = absurd (omega arith)
headers_kept s (later k (this l e h)) d b i = absurd (omega arith)
headers_kept s (later k (later m (this l e h))) d b i = absurd (omega arith)
headers_kept s (later k (later m (later g t))) d b i = g b i

-- rules are kept where a list behind them is refused by a number that none of them has
kept_by_number : (rs : List Rule) (u v : Ruling) {n p : ℕ} → ruling rs ≡ u → has n rs ≡ false → or_rule u v ≡ Refused n p → u ≡ Clean
kept_by_number rs Clean v r h e = refl
kept_by_number rs (Err refusal) v r h e = absurd (false≢true (sym h ∙ least_has (ruling_least (r ∙ e))))

module _ (s : List ℕ) {n p : ℕ} (e : verdict_of s ≡ Refused n p) where
  pub at_length : n ≡ 1 → BrokenAt (rule 1 1 (λ q. bad_length s)) p
  unfolding block_rules
  at_length = broken_at s 1 e

  pub at_check : n ≡ 2 → BrokenAt (rule 2 (blocks s) (bad_check s)) p
  unfolding block_rules
  at_check = broken_at s 2 e

  pub at_header : n ≡ 3 → BrokenAt (rule 3 (blocks s) (bad_header s)) p
  unfolding block_rules
  at_header = broken_at s 3 e

  pub at_block : n ≡ 4 → BrokenAt (rule 4 (blocks s) (bad_block s)) p
  unfolding block_rules
  at_block = broken_at s 4 e

  pub at_id : n ≡ 5 → BrokenAt (rule 5 (12 * blocks s) (bad_id (filed s))) p
  unfolding block_rules
  at_id = broken_at s 5 e

  pub at_field : n ≡ 6 → BrokenAt (rule 6 (12 * blocks s) (broken_by (filed s) (edition s 0) field_above)) p
  unfolding block_rules
  at_field = broken_at s 6 e

  pub at_fractions : n ≡ 7 → BrokenAt (rule 7 (12 * blocks s) (broken_by (filed s) (edition s 0) fractions_above)) p
  unfolding block_rules
  at_fractions = broken_at s 7 e

  pub at_wood : n ≡ 12 → BrokenAt (rule 12 1 (λ q. cleared_above (rows 3 s) (rows 1 s))) p
  unfolding block_rules
  at_wood = broken_at s 12 e

  pub at_soil : n ≡ 13 → BrokenAt (rule 13 (12 * blocks s) (soil_uneven (filed s))) p
  unfolding block_rules
  at_soil = broken_at s 13 e

  pub at_trees : n ≡ 14 → BrokenAt (rule 14 (12 * blocks s) (broken_by (filed s) (edition s 0) scattered_trees)) p
  unfolding block_rules
  at_trees = broken_at s 14 e

  pub last-number : eqb n 1 ≡ false → eqb n 2 ≡ false → eqb n 3 ≡ false → eqb n 4 ≡ false → eqb n 5 ≡ false → eqb n 6 ≡ false → eqb n 7 ≡ false → eqb n 12 ≡ false
      → eqb n 14 ≡ false → n ≡ 13
  unfolding block_rules
  last-number a b c d f g h i j = eqb-true n 13 (sym (or-false (eqb n 13)) ∙ rw (a, b, c, d, f, g, j, h, i) at (given-number s n p e))

  pub known-kinds : 3 < n → (j : ℕ) → j < 12 * blocks s → (0 < (filed s).kind j) × ((filed s).kind j ≤ kinds)
  known-kinds d j i =
      let h = headed s (j / 12) (headers_kept s ((refused s n p).0 e) d (j / 12) (omega arith)) in
      (omega (arith, h.low), omega (arith, h.high, last-kinds (edition s (j / 12))))

  -- no rule of form_rules has the number
  formed_by : has n (form_rules s) ≡ false → Formed s (counts_of s)
  formed_by h =
      let behind = sym (ruling_append (form_rules s) (sum_rules (filed s))) ∙ refused-ruling s n p e in
      record { clean = kept_by_number (form_rules s) (ruling (form_rules s)) _ refl h behind; counts = refl }

  pub wood_formed : n ≡ 12 → Formed s (counts_of s)
  unfolding block_rules
  wood_formed q = formed_by (rw q)

  pub soil_formed : n ≡ 13 → Formed s (counts_of s)
  unfolding block_rules
  soil_formed q = formed_by (rw q)
