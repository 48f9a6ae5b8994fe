-- Laws of the adding sheet. Assumes nothing.
--     sheet_due                             its last total is the check
--     Entered, entered_none, -more, -all    the sheet as the loop keeps it, from no byte to all of them
use Prim.Native.Nat.{ℕ, zero, suc, ◌+◌, ◌-◌, ◌*◌, ◌≤◌, ◌<◌}
use mathlib.Core.Path.{◌≡◌, refl, ap, ◌∙◌}
use mathlib.Core.List.{List, [], ◌∷◌}
use native.Mathlib.Nat.{add-mul, mul-add}
use native.Mathlib.Omega.{arith}
use lib.ListN.{get_or, take, drop}
use lib.Seq.{take-nil, get_or-drop}
use Rattle.form.specs.Bytes.{byte_at}
use Rattle.form.specs.Block.{weighed, check_due}
use Rattle.form.specs.Adding.{sheet_after}

-- one byte more is weighed by its offset and the first weight
weighed-more : (k m : ℕ) (d : List ℕ) → weighed k (take (suc m) d) ≡ weighed k (take m d) + (k + m) * get_or d m 0
unfolding weighed
weighed-more k m [] = rw take-nil (omega arith)
weighed-more k zero (x ∷ xs) = let e : k + 0 ≡ k = omega arith in rw e (omega arith)
weighed-more k (suc m) (x ∷ xs) = let e : suc k + m ≡ k + suc m = omega arith in rw (weighed-more (suc k) m xs, e) (omega arith)

-- a byte of weight m + 1 that is entered goes to the total once, with the running sum, and m times more with it
step : (w m x running total : ℕ) → w + (1 + m) * x + (total + suc m * running) ≡ w + (total + (running + x) + m * (running + x))
step w m x running total = omega (arith, add-mul 1 m x, add-mul 1 m running, mul-add m running x)

-- after n bytes, with m left: the check is what they weigh, the total, and the running sum m times more
sheet_left : (s : List ℕ) (b m n : ℕ) → m + n ≡ 508
    → check_due s b ≡ weighed 1 (take m (drop (512 * b) s)) + ((sheet_after s b n).total + m * (sheet_after s b n).running)
unfolding check_due sheet_after
sheet_left s b m zero h = let e : m ≡ 508 = omega arith in rw e (omega arith)
sheet_left s b m (suc n) h =
    let offset : m ≡ 507 - n = omega arith in
    let byte : get_or (drop (512 * b) s) m 0 ≡ byte_at s (512 * b + (507 - n)) = get_or-drop (512 * b) s m 0 ∙ ap (λ (i : ℕ). byte_at s (512 * b + i)) offset in
    sheet_left s b (suc m) n (omega arith)
    ∙ rw (weighed-more 1 m (drop (512 * b) s), byte) (step _ m (byte_at s (512 * b + (507 - n))) (sheet_after s b n).running (sheet_after s b n).total)

pub sheet_due : (s : List ℕ) (b : ℕ) → (sheet_after s b 508).total ≡ check_due s b
unfolding weighed
sheet_due s b = omega (arith, sheet_left s b 0 508 refl)

-- the sheet's line with the bytes below an offset still to come; both sums have room, a byte being at most 255 and all running sums at most 508 times that
pub record Entered (s : List ℕ) (b running total offset : ℕ) : Type 0 where
  pub within : offset ≤ 508
  pub small : running ≤ 255 * (508 - offset)
  pub smalls : total ≤ 129540 * (508 - offset)
  pub sum : running ≡ (sheet_after s b (508 - offset)).running
  pub sums : total ≡ (sheet_after s b (508 - offset)).total

pub entered_none : (s : List ℕ) (b : ℕ) → Entered s b 0 0 508
unfolding sheet_after
entered_none s b = record { within = omega arith; small = omega arith; smalls = omega arith; sum = refl; sums = refl }

pub entered-more : {s : List ℕ} {b running total offset x : ℕ} → Entered s b running total offset → 0 < offset → x ≡ byte_at s (512 * b + (offset - 1)) → x < 256
    → Entered s b (running + x) (total + (running + x)) (offset - 1)
unfolding sheet_after
entered-more {s} {b} {running} {total} {offset} {x} p h e l =
    let n : 508 - (offset - 1) ≡ suc (508 - offset) = omega (arith, p.within) in
    let at : 507 - (508 - offset) ≡ offset - 1 = omega (arith, p.within) in
    record {
      within = omega (arith, p.within);
      small = omega (arith, p.within, p.small);
      smalls = omega (arith, p.within, p.small, p.smalls);
      sum = rw (n, at, ← e, ← p.sum);
      sums = rw (n, at, ← e, ← p.sum, ← p.sums);
    }

pub entered_all : {s : List ℕ} {b running total offset : ℕ} → Entered s b running total offset → offset ≤ 0 → total ≡ check_due s b
entered_all {s} {b} {offset = offset} p h = let e : 508 - offset ≡ 508 = omega arith in p.sums ∙ ap (λ (n : ℕ). (sheet_after s b n).total) e ∙ sheet_due s b
