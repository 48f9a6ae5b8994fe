-- §4. "Departments verify a block's check on an adding sheet: from offset 507 down to 0 they keep a running sum of the bytes, and they add up those running sums."
use Rattle.std.specs.Prelude.{ℕ, ◌+◌, ◌-◌, ◌*◌, ◌<◌, ◌≡◌, refl, List, Ok}
use Rattle.std.proofs.Common.{sym, ◌∙◌, add-one}
use Rattle.form.specs.Bytes.{byte_at}
use Rattle.form.specs.Block.{blocks, check_said, check_due}
use Rattle.form.specs.Adding.{sheet_after}
use Rattle.form.specs.Verdict.{verdict_of}
use Rattle.form.specs.declared.Counts.{Counts}
use Rattle.form.proofs.Adding.{sheet_due}
use Rattle.standing.proofs.Accepted.{formed, check_right}

-- the sheet of block b, kept so: both sums after n bytes, of which the next is the one at offset 507 - n; after all 508 the total is the check
pub record AddingSheet (s : List ℕ) (b : ℕ) : Type 0 where
  pub first-running : (sheet_after s b 0).running ≡ 0
  pub first-total : (sheet_after s b 0).total ≡ 0
  pub next-running : (n : ℕ) → (sheet_after s b (n + 1)).running ≡ (sheet_after s b n).running + byte_at s (512 * b + (507 - n))
  pub next-total : (n : ℕ) → (sheet_after s b (n + 1)).total ≡ (sheet_after s b n).total + (sheet_after s b (n + 1)).running
  pub check : (sheet_after s b 508).total ≡ check_due s b

-- of any bytes: whole blocks or not, good or not
pub adding_sheet : (s : List ℕ) (b : ℕ) → AddingSheet s b
unfolding sheet_after
adding_sheet s b = record { first-running = refl; first-total = refl; next-running = λ n. rw add-one; next-total = λ n. rw add-one; check = sheet_due s b }

-- so each block of an accepted return has its sheet's last total for its check
pub accepted_adds_up : (s : List ℕ) (c : Counts) → verdict_of s ≡ Ok c → (b : ℕ) → b < blocks s → check_said s b ≡ (sheet_after s b 508).total
accepted_adds_up s c accepted b l = check_right s c (formed s c accepted) b l ∙ sym (sheet_due s b)
