-- What the steps along the conversion rows answer.
use Rattle.std.specs.Prelude.{ℕ, ◌+◌, ◌≤◌, List}
use Rattle.wide.specs.Numbers.{value}
use Rattle.form.specs.Sums.{cleared_part, column_l}
use Rattle.totals.specs.Masses.{dry_matter, carbon, periods}
use Rattle.totals.specs.Columns.{onsite_part, offsite_part, decay_part, thinner_part, onsite_total, offsite_total, decay_total, thinner_total}
use Rattle.totals.specs.declared.Parts.{Parts}
use Rattle.totals.specs.declared.Totals.{Totals}

-- one row's parts
abbrev pub parts_of : List ℕ → Parts
parts_of r = record {
  cleared = record { 0 = cleared_part r };
  onsite = record { 0 = onsite_part r };
  offsite = record { 0 = offsite_part r };
  decay = record { 0 = decay_part r };
  thinner = record { 0 = thinner_part r };
}

-- a row's parts as sums of that row alone
unfoldable pub row_totals : Parts → Totals
row_totals p = record {
  cleared = dry_matter p.cleared.0;
  onsite = carbon p.onsite.0;
  offsite = carbon p.offsite.0;
  decay = carbon p.decay.0;
  thinner = periods p.thinner.0;
}

-- the sums over no rows, and those of two together, each with its own
abbrev pub no_totals : Totals
no_totals = record { cleared = dry_matter 0; onsite = carbon 0; offsite = carbon 0; decay = carbon 0; thinner = periods 0 }

unfoldable pub plus_totals : Totals → Totals → Totals
plus_totals t u = record {
  cleared = dry_matter (value t.cleared.0 + value u.cleared.0);
  onsite = carbon (value t.onsite.0 + value u.onsite.0);
  offsite = carbon (value t.offsite.0 + value u.offsite.0);
  decay = carbon (value t.decay.0 + value u.decay.0);
  thinner = periods (value t.thinner.0 + value u.thinner.0);
}

-- each of the five is at most n
pub record TotalsMost (n : ℕ) (t : Totals) : Type 0 where
  pub cleared : value t.cleared.0 ≤ n
  pub onsite : value t.onsite.0 ≤ n
  pub offsite : value t.offsite.0 ≤ n
  pub decay : value t.decay.0 ≤ n
  pub thinner : value t.thinner.0 ≤ n

-- the sums over rows, in their one form
unfoldable pub totals_of : List (List ℕ) → Totals
totals_of rs = record {
  cleared = dry_matter (column_l rs);
  onsite = carbon (onsite_total rs);
  offsite = carbon (offsite_total rs);
  decay = carbon (decay_total rs);
  thinner = periods (thinner_total rs);
}
