-- A record rule at record r of block b, as the code tries it. Assumes nothing.
--     tried, unused     a rule of one row, of a used and of an unused record; spared, a whole block whose kind it is not about
--     of_kind           a rule about one kind's rows alone
--     later, no_later   rule 5 of a later record, used and unused; no_ids, a block whose kind has no id
use Prim.Native.Nat.{ℕ, zero, suc, ◌+◌, ◌-◌, ◌*◌, ◌<◌, ◌≤◌}
use mathlib.Core.Path.{◌≡◌, sym, ap, ◌∙◌}
use mathlib.Core.Bool.{Bool, true, false, ◌&&◌, and-false}
use mathlib.Core.List.{List}
use native.Mathlib.Nat.{add-zero}
use native.Mathlib.Omega.{arith}
use borrow.Author.Tests.{lt-ltb, le-ltb, eqb-true}
use lib.Dec.{ltb, leb, eqb}
use Rattle.form.specs.First.{first}
use Rattle.form.specs.Bytes.{number}
use Rattle.form.specs.Layout.{layout, row_at}
use Rattle.form.specs.Block.{kind_of, count_of, edition, record_at}
use Rattle.form.specs.Records.{filed, has_id, bad_id, test_numbered}
use Rattle.form.specs.Steps.{passed_over}
use Rattle.std.specs.Prelude.{None}
use Rattle.form.proofs.Search.{first_is_none}
use Rattle.form.proofs.Tests.{on, off, guarded}
use Rattle.form.proofs.Spared.{spared_row}
use Rattle.form.proofs.Places.{row_in, broken_at, id_later}
use Rattle.records.specs.Steps.{row_test}

-- a test of the rows of kind m alone, of the record at a place
pub of_kind : (m k : ℕ) (t : List ℕ → Bool) (s : List ℕ) (at : ℕ) {x : Bool} → x ≡ t (row_at (layout m) s at) → (eqb k m && x) ≡ (eqb k m && t (row_at (layout k) s at))
of_kind m k t s at q = guarded (eqb k m) (λ e. q ∙ ap (λ (n : ℕ). t (row_at (layout n) s at)) (sym (eqb-true k m e)))

module _ (s : List ℕ) (b : ℕ) where
  module _ (n : ℕ) where
    pub tried : {x : Bool} (r : ℕ) → r < 12 → r < count_of s b → x ≡ test_numbered n (edition s 0) (kind_of s b) (row_in s b r) → row_test n s (12 * b + r) ≡ x
    tried r l u e = broken_at s b r l (edition s 0) (test_numbered n) ∙ sym (on (lt-ltb r (count_of s b) u) e)

    pub unused : (r : ℕ) → r < 12 → count_of s b ≤ r → row_test n s (12 * b + r) ≡ false
    unused r l u = broken_at s b r l (edition s 0) (test_numbered n) ∙ sym (off _ (le-ltb r (count_of s b) u))

    pub spared : passed_over n (edition s 0) (kind_of s b) ≡ true → first (λ r. row_test n s (12 * b + r)) 12 ≡ None
    spared h =
        first_is_none _ 12
        (λ r l. broken_at s b r l (edition s 0) (test_numbered n) ∙ rw (spared_row n (edition s 0) (kind_of s b) (row_in s b r) h) (and-false (ltb r (count_of s b))))

  pub later : {x : Bool} (r : ℕ) → 0 < r → r < 12 → r < count_of s b → has_id (kind_of s b) ≡ true
      → x ≡ leb (number 4 s (record_at b r)) (number 4 s (record_at b (r - 1))) → bad_id (filed s) (12 * b + r) ≡ x
  later r z l u k e = id_later s b r l z ∙ sym (on (lt-ltb r (count_of s b) u) (on k e))

  pub no_later : (r : ℕ) → 0 < r → r < 12 → count_of s b ≤ r → bad_id (filed s) (12 * b + r) ≡ false
  no_later r z l u = id_later s b r l z ∙ sym (off _ (le-ltb r (count_of s b) u))

  pub no_ids : bad_id (filed s) (12 * b) ≡ false → has_id (kind_of s b) ≡ false → first (λ r. bad_id (filed s) (12 * b + r)) 12 ≡ None
  no_ids z k = first_is_none _ 12 go
    where
      go : (r : ℕ) → r < 12 → bad_id (filed s) (12 * b + r) ≡ false
      go zero l = rw add-zero z
      go (suc r) l = id_later s b (suc r) l (omega arith) ∙ rw k (and-false (ltb (suc r) (count_of s b)))
