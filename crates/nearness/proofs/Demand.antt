-- Demand 3 of an accepted return. Assumes nothing.
--     answered                                       its answer is the three doubles
--     few, all_within                                at most 32 conversion rows, each within its limits
--     onsite_demand, offsite_demand, decay_demand    each is near the exact subtotal, by the number of conversion rows
use mathlib.Core.Path.{◌≡◌, ap}
use mathlib.Core.List.{List}
use Prim.Native.Nat.{ℕ, ◌≤◌}
use native.Mathlib.Omega.{arith}
use lib.ListN.{length}
use Rattle.form.specs.Verdict.{rows, verdict_of, Formed}
use Rattle.form.specs.declared.Counts.{Counts}
use Rattle.std.specs.Prelude.{Ok}
use Rattle.form.proofs.EachKind.{one_kind}
use Rattle.standing.proofs.Accepted.{formed, few_rows, rows-length, within}
use Rattle.totals.specs.Columns.{onsite_total, offsite_total, decay_total}
use Rattle.nearness.specs.Near.{Near}
use Rattle.doubles.specs.Subtotals.{subtotals_of, answer_by, answer_of}
use Rattle.nearness.proofs.Sums.{Each}
use Rattle.doubles.proofs.Walk.{counted}
use Rattle.nearness.proofs.Bound.{Within, onsite-near, offsite-near, decay-near}

module _ (s : List ℕ) (c : Counts) (accepted : verdict_of s ≡ Ok c) where
  pub answered : answer_of s ≡ Ok (subtotals_of (rows 1 s))
  answered = ap (answer_by s) accepted

  acc : Formed s c
  acc = formed s c accepted

  pub few : length (rows 1 s) ≤ 32
  few = rw (rows-length s c acc 1) (few_rows s c acc 1)

  pub all_within : Each Within (rows 1 s)
  all_within i l = within s c acc 1 i (omega arith) one_kind (omega (arith, rows-length s c acc 1))

  pub onsite_demand : Near c.conversion (subtotals_of (rows 1 s)).onsite (onsite_total (rows 1 s))
  onsite_demand = rw (← counted s c acc) (onsite-near (rows 1 s) few all_within)

  pub offsite_demand : Near c.conversion (subtotals_of (rows 1 s)).offsite (offsite_total (rows 1 s))
  offsite_demand = rw (← counted s c acc) (offsite-near (rows 1 s) few all_within)

  pub decay_demand : Near c.conversion (subtotals_of (rows 1 s)).decay (decay_total (rows 1 s))
  decay_demand = rw (← counted s c acc) (decay-near (rows 1 s) few all_within)
