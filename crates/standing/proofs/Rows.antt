-- Row i of a kind of a return that can be read row by row: where it stands, by the counts. Assumes nothing.
--     kind_row          its bytes, from the kind's first block; conversion-row, parameter_row
--     kept              its limits
use Prim.Native.Nat.{ℕ, zero, suc, ◌+◌, ◌-◌, ◌/◌, ◌%◌, ◌<◌, ◌≤◌}
use mathlib.Core.Path.{◌≡◌, refl, sym, ap, subst, ◌∙◌}
use mathlib.Core.Bool.{false}
use mathlib.Core.List.{List, []}
use lib.Dec.{lit≤}
use native.Mathlib.Omega.{arith}
use lib.ListN.{length, get_or}
use Rattle.form.specs.Layout.{kinds, parameters_kind, layout, row_at, above_limit}
use Rattle.form.specs.Block.{record_at}
use Rattle.form.specs.Verdict.{row_count, count_in, rows, Formed}
use Rattle.form.specs.Standing.{start_block, first_block}
use Rattle.form.specs.declared.Counts.{Counts}
use Rattle.form.proofs.EachKind.{one_kind, parameters-kind}
use Rattle.standing.proofs.Accepted.{counted, first_block_lem, rows-length, one_row, row_is, inside, within}

-- row i of a kind starts at a byte, and all of it is there
pub record Stands (s : List ℕ) (k i at : ℕ) : Type 0 where
  pub there : i < length (rows k s)
  pub row : get_or (rows k s) i [] ≡ row_at (layout k) s at
  pub inside : at + 40 ≤ length s

module _ (s : List ℕ) (c : Counts) (acc : Formed s c) where
  -- row i of a kind, from the kind's first block on
  pub kind_row : (k : ℕ) {first i at : ℕ} → 1 ≤ k → k ≤ kinds → first ≡ first_block k c → i < count_in c k → at ≡ record_at (first + i / 12) (i % 12) → Stands s k i at
  kind_row zero lo hi e l q = absurd (omega arith)
  kind_row (suc k) {first} {i} {at} lo hi e l q =
      let n : i < row_count (suc k) s = omega (arith, counted s c acc k hi) in
      let b : start_block (suc k) s ≡ first = sym (e ∙ first_block_lem s c acc (suc k) (omega arith)) in
      let p : record_at (start_block (suc k) s + i / 12) (i % 12) ≡ at = ap (λ (x : ℕ). record_at (x + i / 12) (i % 12)) b ∙ sym q in
      subst (Stands s (suc k) i) p
      (record { there = omega (arith, rows-length s c acc (suc k)); row = row_is s c acc (suc k) i lo hi n; inside = inside s c acc (suc k) i lo hi n })

  -- by the counts
  pub conversion-row : (i at : ℕ) → i < c.conversion → at ≡ record_at (0 + i / 12) (i % 12) → Stands s 1 i at
  unfolding first_block
  conversion-row i at l = kind_row 1 (lit≤ tt) one_kind refl l

  -- the one parameter row
  pub parameter_row : (first at : ℕ) → first ≡ first_block parameters_kind c → at ≡ record_at (first + 0 / 12) (0 % 12) → Stands s parameters_kind 0 at
  parameter_row first at e =
      kind_row parameters_kind (lit≤ tt) parameters-kind e (omega (arith, counted s c acc (parameters_kind - 1) parameters-kind, one_row s c acc))

  -- each row keeps its limits
  pub kept : (k i : ℕ) → 1 ≤ k → k ≤ kinds → i < length (rows k s) → above_limit (layout k) (get_or (rows k s) i []) ≡ false
  kept k i lo hi l = within s c acc k i lo hi (omega (arith, rows-length s c acc k))
