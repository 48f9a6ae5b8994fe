-- DEMAND 3. "For an accepted return with n conversion rows (0 to 32), each carbon subtotal (on site, off site, decayed) also comes as a double: a whole number whose
-- distance from the exact subtotal, times 2 to the 53rd, is at most (n + 2) times the exact subtotal."
use Rattle.std.specs.Prelude.{ℕ, ◌≤◌, ◌≡◌, List, Float, length, Ok}
use Rattle.std.proofs.Common.{sym, ap, subst}
use Rattle.form.specs.Verdict.{rows, row_count, verdict_of}
use Rattle.form.specs.declared.Counts.{Counts}
use Rattle.standing.proofs.Accepted.{formed, formed_counts, few_rows, rows-length}
use Rattle.wide.specs.Numbers.{value, words_of}
use Rattle.wide.proofs.Laws.{value_words}
use Rattle.totals.specs.Columns.{onsite_total, offsite_total, decay_total}
use Rattle.totals.specs.Sums.{totals_of}
use Rattle.ledger.specs.Ledger.{entered}
use Rattle.ledger.specs.Derived.{conversion_of}
use Rattle.worksheets.specs.Sheets.{by_kind, figures_of}
use Rattle.nearness.specs.Near.{Near}
use Rattle.doubles.specs.Subtotals.{subtotals_of, answer_of}
use Rattle.doubles.specs.declared.Doubles.{Doubles}
use Rattle.nearness.proofs.Demand.{answered, onsite_demand, offsite_demand, decay_demand}

-- n, the answer and the three distances. Near n x exact: the double x is a whole number v, and |v - exact| x 2^53 is at most (n + 2) x exact.
-- The exact subtotals are those of worksheet 5-2.
pub record Demanded (s : List ℕ) (n : ℕ) (d : Doubles) : Type 0 where
  pub counted : n ≡ row_count 1 s
  pub listed : n ≡ length (rows 1 s)
  pub few : n ≤ 32
  pub answer : answer_of s ≡ Ok d
  pub onsite : Near n d.onsite (value (figures_of (by_kind s)).conversion.onsite.0)
  pub offsite : Near n d.offsite (value (figures_of (by_kind s)).conversion.offsite.0)
  pub decay : Near n d.decay (value (figures_of (by_kind s)).conversion.decay.0)

as_said : {n : ℕ} {x : Float} (exact : ℕ) → Near n x exact → Near n x (value (words_of exact))
as_said {n} {x} exact h = subst (Near n x) (sym (value_words exact).number) h

pub demand_3 : (s : List ℕ) (c : Counts) → verdict_of s ≡ Ok c → Demanded s c.conversion (subtotals_of (rows 1 s))
unfolding conversion_of entered totals_of
demand_3 s c accepted =
    let acc = formed s c accepted in
    let e : c.conversion ≡ row_count 1 s = ap (λ (k : Counts). k.conversion) (formed_counts s c acc) in
    record {
      counted = e;
      listed = rw (rows-length s c acc 1) e;
      few = rw e (few_rows s c acc 1);
      answer = answered s c accepted;
      onsite = as_said (onsite_total (rows 1 s)) (onsite_demand s c accepted);
      offsite = as_said (offsite_total (rows 1 s)) (offsite_demand s c accepted);
      decay = as_said (decay_total (rows 1 s)) (decay_demand s c accepted);
    }
