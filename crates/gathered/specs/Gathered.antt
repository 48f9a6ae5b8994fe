-- §10: what the returns of a file add up to. "A refused return is listed by its position, from 1, with number and place and adds nothing;
-- accepted and refused are counted and printed." Assumes nothing.
use Rattle.std.specs.Prelude.{ℕ, ◌+◌, suc, ◌≤◌, ◌<◌, List, [], ◌∷◌, map, ℤ, pos, ◌+ℤ◌, length, Ok, Err}
use Rattle.form.specs.Verdict.{rows, verdict_of}
use Rattle.form.specs.Refusals.{Verdict}
use Rattle.ledger.specs.Ledger.{ledger_of, plus, none, sum_ledgers}
use Rattle.ledger.specs.Several.{AtMost}
use Rattle.ledger.specs.declared.Ledger.{Ledger}
use Rattle.worksheets.specs.Sheets.{by_kind, given}
use Rattle.cutting.specs.Cutting.{most_returns}
use Rattle.gathered.specs.declared.Tally.{Tally}

-- a return's ledger, from its rows: that which its figures are derived from (`figures_of`)
abbrev pub ledger_in : List ℕ → Ledger
ledger_in s = ledger_of (rows 1 s) (rows 2 s) (rows 3 s) (given (by_kind s)).n

-- by a verdict
abbrev pub if_accepted : {A : Type 0} → Verdict → A → A → A
if_accepted (Ok c) x y = x
if_accepted (Err r) x y = y

-- the accepted ones among some returns, in their order, and the refused ones
unfoldable pub accepted_of : List (List ℕ) → List (List ℕ)
accepted_of [] = []
accepted_of (r ∷ rs) = let more = accepted_of rs in if_accepted (verdict_of r) (r ∷ more) more

unfoldable pub refused_of : List (List ℕ) → List (List ℕ)
refused_of [] = []
refused_of (r ∷ rs) = let more = refused_of rs in if_accepted (verdict_of r) more (r ∷ more)

-- how many there are of either, and the sum of the accepted ones' ledgers: a refused return "adds nothing", and "a return present twice counts twice"
unfoldable pub tally_of : List (List ℕ) → Tally
tally_of rs = record {
  accepted = length (accepted_of rs);
  refused = length (refused_of rs);
  ledger = sum_ledgers (map ledger_in (accepted_of rs));
}

-- how many returns there were
abbrev pub count_of : Tally → ℕ
count_of t = t.accepted + t.refused

-- what numbers with a sign come to over some returns
abbrev pub signed_sum : (List ℕ → ℤ) → List (List ℕ) → ℤ
signed_sum f [] = pos 0
signed_sum f (r ∷ rs) = f r +ℤ signed_sum f rs

-- ---- one return more, as the steps go

abbrev pub step_by : Tally → List ℕ → Verdict → Tally
step_by t s (Ok c) = record { accepted = t.accepted + 1; refused = t.refused; ledger = plus t.ledger (ledger_in s) }
step_by t s (Err r) = record { accepted = t.accepted; refused = t.refused + 1; ledger = t.ledger }

abbrev pub step_of : Tally → List ℕ → Tally
step_of t s = step_by t s (verdict_of s)

-- what is known of a tally that has room for one return more
pub record Roomy (t : Tally) : Type 0 where
  pub count : count_of t < most_returns
  pub ledger : AtMost t.accepted t.ledger
