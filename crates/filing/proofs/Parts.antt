-- A block and its parts: how long each is, how many of its places are used, and the block stored part by part. Assumes nothing.
use Prim.Native.Nat.{ℕ, zero, suc, ◌+◌, ◌-◌, ◌*◌, ◌/◌, ◌%◌, ◌≤◌, ◌<◌, min}
use mathlib.Core.Path.{◌≡◌, refl, ◌∙◌}
use mathlib.Core.List.{List, ◌++◌}
use native.Mathlib.Nat.{add-zero, mul-suc, mul-div-le, mul-le-mul_left}
use native.Mathlib.Omega.{arith}
use lib.Dec.{ltb}
use lib.ListN.{length, take, drop, length-append}
use lib.Seq.{sets}
use borrow.Author.Tests.{lt-ltb, le-ltb, ltb-true, ltb-false}
use Rattle.form.specs.Layout.{layout, numbers_of}
use Rattle.form.specs.Block.{record_at, weighed, check_due}
use Rattle.form.specs.Records.{Filed}
use Rattle.filing.specs.Lists.{rows_in, filed_list}
use Rattle.filing.specs.Written.{zeros, record_of, in_turn, head_of, sealed, record_on, used_from, body_of, block_of}
use Rattle.form.specs.Bytes.{little_endian}
use Rattle.filing.specs.Tables.{row_on}
use Rattle.form.proofs.Tests.{either}
use Rattle.filing.proofs.Stands.{length_le, length-zeros, length_record}
use Rattle.filing.proofs.Stores.{sets_then, sets-read, length_turns}
use Rattle.form.proofs.Fields.{ends_40}
use Rattle.filing.proofs.Fields.{length-row, record_take}

pub length-head : (ed kind count b n : ℕ) → length (head_of ed kind count b n) ≡ 8
unfolding head_of little_endian
length-head ed kind count b n = refl

module _ (f : Filed) where
  pub length_on : (j : ℕ) → length (record_on f j) ≡ 40
  unfolding record_on
  length_on j = either (λ (x : List ℕ). length x ≡ 40) (f.used j) (λ u. length_record 0 _ (f.row j) (ends_40 (f.kind j))) (λ u. length-zeros 40)

  pub length-body : (ed start n b : ℕ) → length (body_of ed f start n b) ≡ 508
  unfolding body_of
  length-body ed start n b =
      simp
      (length-append, length-head ed (f.kind (12 * b)) (used_from f (12 * b) 12) (start + b) n, length_turns (record_on f) 40 length_on (12 * b) 12, length-zeros 20)

  pub length_block : (ed start n b : ℕ) → length (block_of ed f start n b) ≡ 512
  unfolding block_of sealed
  length_block ed start n b =
      let x : List ℕ = body_of ed f start n b in
      simp (length-append, length-body ed start n b, length_le 4 (weighed 1 x))

  -- of n places, the first being number a of which m are used
  pub used-count : (n a m j : ℕ) → ((i : ℕ) → i < n → f.used (j + i) ≡ ltb (a + i) m) → used_from f j n ≡ min n (m - a)
  unfolding used_from
  used-count zero a m j h = omega arith
  used-count (suc n) a m j h =
      let here : f.used j ≡ ltb a m = rw (add-zero j, add-zero a) at (h 0 (omega arith)) in
      let up : (k i : ℕ) → suc k + i ≡ k + suc i = λ k i. omega arith in
      rw (here, used-count n (suc a) m (suc j) (λ i l. rw (up j i, up a i) (h (suc i) (omega arith))))
      (either (λ x. x + min n (m - suc a) ≡ min (suc n) (m - a)) (ltb a m) (λ t. omega (arith, ltb-true a m t)) (λ t. omega (arith, ltb-false a m t)))

-- ---- the records of a list

-- part k of n, of w numbers each
pub part-fits : (w k n : ℕ) → k < n → w * k + w ≤ w * n
part-fits w k n h = omega (arith, mul-le-mul_left {m = suc k} {n = n} w h, mul-suc w k)

-- row j of the whole rows, of n numbers each
pub row_in : (n j m : ℕ) → j < m / n → n * j + n ≤ m
row_in n j m h = omega (arith, mul-div-le m n, part-fits n j (m / n) h)

pub length-row_on : (kind : ℕ) (s : List ℕ) (j : ℕ) → length (row_on kind s j) ≡ numbers_of kind
unfolding row_on
length-row_on kind s j = length-row 0 (layout kind) s (record_at (j / 12) (j % 12))

module _ (kind : ℕ) (r : List ℕ) where
  pub list-used : (b : ℕ) → used_from (filed_list kind r) (12 * b) 12 ≡ min 12 (rows_in kind (length r) - 12 * b)
  unfolding filed_list
  list-used b = used-count (filed_list kind r) 12 (12 * b) (rows_in kind (length r)) (12 * b) (λ i l. refl)

  pub list-row : (j : ℕ) → j < rows_in kind (length r) → record_on (filed_list kind r) j ≡ record_of (layout kind) (drop (numbers_of kind * j) r)
  unfolding filed_list record_on
  list-row j h = rw (lt-ltb j (rows_in kind (length r)) h) (record_take 0 (layout kind) (drop (numbers_of kind * j) r))

  pub list_none : (j : ℕ) → rows_in kind (length r) ≤ j → record_on (filed_list kind r) j ≡ zeros 40
  unfolding filed_list record_on
  list_none j h = rw (le-ltb j (rows_in kind (length r)) h)

-- ---- a block stored part by part

pub block_stored : (ed : ℕ) (f : Filed) (start n b : ℕ) (o : List ℕ) {o₁ o₂ o₃ o₄ : List ℕ} {to count check : ℕ}
    → to ≡ 512 * (start + b) → to + 512 ≤ length o → count ≡ used_from f (12 * b) 12
    → o₁ ≡ sets o to (head_of ed (f.kind (12 * b)) count (start + b) n)
    → o₂ ≡ sets o₁ (to + 8) (in_turn (record_on f) (12 * b) 12)
    → o₃ ≡ sets o₂ (to + 488) (zeros 20)
    → check ≡ check_due o₃ (start + b)
    → o₄ ≡ sets o₃ (to + 508) (little_endian 4 check)
    → o₄ ≡ sets o to (block_of ed f start n b)
unfolding body_of block_of sealed check_due
block_stored ed f start n b o {o₁} {o₂} {o₃} {o₄} {to} {count} {check} t room c e₁ e₂ e₃ ec e₄ =
    let h : List ℕ = head_of ed (f.kind (12 * b)) (used_from f (12 * b) 12) (start + b) n in
    let r : List ℕ = in_turn (record_on f) (12 * b) 12 in
    let x : List ℕ = body_of ed f start n b in
    let lh = length-head ed (f.kind (12 * b)) (used_from f (12 * b) 12) (start + b) n in
    let lr = length_turns (record_on f) 40 (length_on f) (12 * b) 12 in
    let e₁' : o₁ ≡ sets o to h = rw (← c) e₁ in
    let tail : o₃ ≡ sets o₁ (to + 8) (r ++ zeros 20) = sets_then o₁ (to + 8) r (zeros 20) e₂ e₃ (omega arith) in
    let body : o₃ ≡ sets o to x = sets_then o to h (r ++ zeros 20) e₁' tail (omega arith) in
    let read : take 508 (drop to o₃) ≡ x = rw body (sets-read o to x (length-body f ed start n b) (omega arith)) in
    let due : check ≡ weighed 1 x = ec ∙ rw (← t, read) in
    let e₄' : o₄ ≡ sets o₃ (to + 508) (little_endian 4 (weighed 1 x)) = rw (← due) e₄ in
    sets_then o to x (little_endian 4 (weighed 1 x)) body e₄' (omega (arith, length-body f ed start n b))
