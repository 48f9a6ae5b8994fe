-- Laws of places: record r of block b stands at place 12 b + r. Assumes nothing.
--     block_of_lem, position_of    the block and the position of a place
--     id_first, id_later, broken_at    rule 5 and a rule of one row there, by block and position
use Prim.Native.Nat.{ℕ, suc, ◌+◌, ◌-◌, ◌*◌, ◌/◌, ◌%◌, ◌<◌}
use mathlib.Core.Path.{◌≡◌, refl, ap, ap₂, ◌∙◌}
use mathlib.Core.Bool.{false, ◌&&◌, and-false}
use mathlib.Core.List.{List}
use native.Mathlib.Nat.{add-zero}
use native.Mathlib.Omega.{arith}
use borrow.Author.Tests.{lt-ltb, eq-eqb, eqb-true}
use lib.Dec.{ltb, leb, eqb}
use Rattle.form.specs.Bytes.{number}
use Rattle.form.specs.Layout.{layout, row_at}
use Rattle.form.specs.Block.{kind_of, count_of, record_at}
use Rattle.form.proofs.Tests.{guarded}
use Rattle.form.proofs.Tables.{id_number}
use Rattle.form.specs.Records.{RowTest, filed, has_id, bad_id, broken_by}

pub block_of_lem : (b r : ℕ) → r < 12 → (12 * b + r) / 12 ≡ b
block_of_lem b r l = omega arith

pub position_of : (b r : ℕ) → r < 12 → (12 * b + r) % 12 ≡ r
position_of b r l = omega arith

-- the row of record r of block b
abbrev pub row_in : List ℕ → ℕ → ℕ → List ℕ
row_in s b r = row_at (layout (kind_of s b)) s (record_at b r)

module _ (s : List ℕ) (b r : ℕ) (l : r < 12) where
  -- a rule of one row
  pub broken_at : (e : ℕ) (t : RowTest) → broken_by (filed s) e t (12 * b + r) ≡ (ltb r (count_of s b) && t e (kind_of s b) (row_in s b r))
  unfolding broken_by
  broken_at e t = rw (block_of_lem b r l, position_of b r l)

module _ (s : List ℕ) where
  -- rule 5 at record r of block b, against the record one place lower, q of block a
  id_at : (b r a q : ℕ) → r < 12 → q < 12 → 12 * b + r ≡ suc (12 * a + q) → bad_id (filed s) (12 * b + r) ≡
      (ltb r (count_of s b)
      && (has_id (kind_of s b) && (eqb (kind_of s a) (kind_of s b) && leb (number 4 s (record_at b r)) (number 4 s (record_at a q)))))
  unfolding bad_id
  id_at b r a q l m e =
      let j : 12 * b + r - 1 ≡ 12 * a + q = omega arith in
      rw (j, block_of_lem b r l, position_of b r l, block_of_lem a q m, position_of a q m, lt-ltb 0 (12 * b + r) (omega arith))
      (guarded (ltb r (count_of s b)) (λ u. guarded (has_id (kind_of s b)) (λ h. guarded (eqb (kind_of s a) (kind_of s b))
      (λ t. ap₂ (λ (m n : ℕ). leb m n) (id_number (kind_of s b) s (record_at b r) h)
      (id_number (kind_of s a) s (record_at a q) (ap has_id (eqb-true (kind_of s a) (kind_of s b) t) ∙ h))))))

  pub id_later : (b r : ℕ) → r < 12 → 0 < r → bad_id (filed s) (12 * b + r) ≡
      (ltb r (count_of s b) && (has_id (kind_of s b) && leb (number 4 s (record_at b r)) (number 4 s (record_at b (r - 1)))))
  id_later b r l h = rw (eq-eqb (kind_of s b) (kind_of s b) refl) at (id_at b r b (r - 1) l (omega arith) (omega arith))

  pub id_none : bad_id (filed s) (12 * 0) ≡ false
  unfolding bad_id
  id_none = simp and-false

  pub id_first : (b : ℕ) → 0 < b → bad_id (filed s) (12 * b) ≡
      (ltb 0 (count_of s b)
      && (has_id (kind_of s b) && (eqb (kind_of s (b - 1)) (kind_of s b) && leb (number 4 s (512 * b + 8)) (number 4 s (record_at (b - 1) 11)))))
  id_first b h = simp add-zero at (id_at b 0 (b - 1) 11 (omega arith) (omega arith) (omega arith))
