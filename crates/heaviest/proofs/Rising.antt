-- Rule 5 over all rows of a kind of an accepted return. Assumes nothing.
--     ids_rise    a later row has a higher id; conversion_ids_rise, of the conversion rows
use Prim.Native.Nat.{ℕ, zero, suc, ◌+◌, ◌-◌, ◌*◌, ◌/◌, ◌%◌, ◌<◌}
use mathlib.Core.Path.{◌≡◌, refl, sym, ap, ◌∙◌}
use mathlib.Core.Bool.{true, false}
use mathlib.Core.List.{List, []}
use native.Mathlib.Decide.{dec_lt}
use native.Mathlib.Omega.{arith}
use borrow.Author.Tests.{lt-ltb, eq-eqb, leb-false}
use lib.ListN.{length, get_or}
use Rattle.form.specs.Layout.{kinds}
use Rattle.form.specs.Block.{blocks}
use Rattle.form.specs.Records.{Filed, filed, has_id, id_of, bad_id}
use Rattle.form.specs.Verdict.{row_count, rows, Formed}
use Rattle.form.specs.Standing.{start_block, start_place}
use Rattle.form.specs.declared.Counts.{Counts}
use Rattle.form.proofs.Tests.{and_rest}
use Rattle.standing.proofs.Stand.{lying}
use Rattle.standing.proofs.StandRows.{from_at}
use Rattle.standing.proofs.Accepted.{in_order, rows_are, rows-length, id_kept}

-- a record that keeps rule 5, and the one a place lower, of the same kind
above : (f : Filed) (j : ℕ) → bad_id f (suc j) ≡ false → f.used (suc j) ≡ true → has_id (f.kind (suc j)) ≡ true → f.kind j ≡ f.kind (suc j)
    → id_of (f.row j) < id_of (f.row (suc j))
unfolding bad_id
above f j e u h k =
    let lower : suc j - 1 ≡ j = omega arith in
    leb-false _ _ (and_rest _ _ (eq-eqb _ _ k) (rw lower at (and_rest _ _ (lt-ltb 0 (suc j) (omega arith)) (and_rest _ _ h (and_rest _ _ u e)))))

module _ (s : List ℕ) (c : Counts) (acc : Formed s c) where
  module _ (k : ℕ) (id : has_id k ≡ true) where
    -- row i, by its place
    placed : (i : ℕ) → i < row_count k s → get_or (rows k s) i [] ≡ (filed s).row (start_place k s + i)
    placed i l = rw (rows_are s c acc k) (from_at (filed s) (start_place k s) (row_count k s) i l)

    -- the next row stands one place higher, of the same kind
    adjacent : (i : ℕ) → suc i < row_count k s → id_of (get_or (rows k s) i []) < id_of (get_or (rows k s) (suc i) [])
    adjacent i l =
        let b = start_block k s in
        let p = lying s (in_order s c acc) k i (omega arith) in
        let q = lying s (in_order s c acc) k (suc i) l in
        let higher : 12 * b + suc i ≡ suc (12 * b + i) = omega arith in
        let lower : (12 * b + i) / 12 ≡ b + i / 12 = omega arith in
        let block : suc (12 * b + i) / 12 ≡ b + suc i / 12 = omega arith in
        let position : suc (12 * b + i) % 12 ≡ suc i % 12 = omega arith in
        let kind : (filed s).kind (suc (12 * b + i)) ≡ k = rw block q.kind in
        let used : (filed s).used (suc (12 * b + i)) ≡ true = rw (block, position) (lt-ltb _ _ q.used) in
        let same : (filed s).kind (12 * b + i) ≡ k = rw lower p.kind in
        rw (placed i (omega arith), placed (suc i) l, higher)
        (above (filed s) (12 * b + i) (id_kept s c acc (suc (12 * b + i)) (omega arith)) used (ap has_id kind ∙ id) (same ∙ sym kind))

    pub ids_rise : (i j : ℕ) → i < j → j < length (rows k s) → id_of (get_or (rows k s) i []) < id_of (get_or (rows k s) j [])
    ids_rise i zero l h = absurd (omega arith)
    ids_rise i (suc j) l h = go (dec_lt i j) (λ m. ids_rise i j m (omega arith)) (adjacent j (omega (arith, rows-length s c acc k)))
      where
        go : Dec (i < j) → (i < j → id_of (get_or (rows k s) i []) < id_of (get_or (rows k s) j [])) → id_of (get_or (rows k s) j []) < id_of (get_or (rows k s) (suc j) [])
            → id_of (get_or (rows k s) i []) < id_of (get_or (rows k s) (suc j) [])
        go (yes m) e up = omega (arith, e m)
        go (no m) e up = let q : i ≡ j = omega arith in rw q up

  pub conversion_ids_rise : (i j : ℕ) → i < j → j < length (rows 1 s) → id_of (get_or (rows 1 s) i []) < id_of (get_or (rows 1 s) j [])
  unfolding kinds
  conversion_ids_rise = ids_rise 1 refl
