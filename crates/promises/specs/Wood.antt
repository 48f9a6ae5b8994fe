-- §8: a return may not "carry off more wood from clearing than the country consumed". "Refuse them, with equality still good. M, O then never fall below zero; P may."
use Rattle.std.specs.Prelude.{ℕ, ◌-◌, ◌*◌, ◌≤◌, ◌<◌, ◌≡◌, Bool, true, false, List, pos, Ok}
use Rattle.std.proofs.Common.{sym, ap, ◌∙◌, true≢false}
use Rattle.form.specs.Records.{filed}
use Rattle.form.specs.Sums.{column_k, column_l}
use Rattle.form.specs.Verdict.{rows, form_rules, Formed, verdict_by, verdict_of}
use Rattle.form.specs.declared.Counts.{Counts}
use Rattle.form.specs.Refusals.{Refused}
use Rattle.areas.specs.Place.{Even}
use Rattle.totals.specs.Sums.{totals_of}
use Rattle.units.specs.Columns.{net_dry_matter, net_carbon}
use Rattle.ledger.specs.Ledger.{entered}
use Rattle.ledger.specs.Derived.{stocks_of}
use Rattle.worksheets.specs.Sheets.{by_kind, given, figures_of}
use Rattle.worksheets.specs.declared.sheets.Figures.{Figures}
use Rattle.worksheets.specs.Answers.{worked, outcome_of}
use Rattle.steps.proofs.Wood.{wood_good, wood-refused, wood_passes, wood-stops, plain_m, plain_o}
use Rattle.steps.proofs.Soils.{soil_passes}
use Rattle.cases.proofs.Single.{nth, spent_answered}

-- "12, place 0, when L is above 100K": so it is where 12 is given, and it is not in an accepted return
pub refused_12 : (s : List ℕ) (p : ℕ) → verdict_of s ≡ Refused 12 p → (p ≡ 0) × (100 * column_k (rows 3 s) < column_l (rows 1 s))
refused_12 = wood-refused

pub accepted-wood : (s : List ℕ) (c : Counts) → verdict_of s ≡ Ok c → column_l (rows 1 s) ≤ 100 * column_k (rows 3 s)
accepted-wood = wood_good

-- and of a return that keeps 1 to 7 and 14 either is so; "equality still good": what may still refuse it is 13
pub more-cleared-refused : (s : List ℕ) (c : Counts) → Formed s c → 100 * column_k (rows 3 s) < column_l (rows 1 s) → verdict_of s ≡ Refused 12 0
unfolding verdict_of
more-cleared-refused s c f h = ap (verdict_by s) (wood-stops s (form_rules s) f.clean h)

pub enough_used-accepted : (s : List ℕ) (c : Counts) → Formed s c → column_l (rows 1 s) ≤ 100 * column_k (rows 3 s) → Even (rows 7 s) → verdict_of s ≡ Ok c
unfolding verdict_of
enough_used-accepted s c f h e = ap (verdict_by s) (wood_passes s (form_rules s) f.clean h ∙ soil_passes (filed s) e) ∙ sym (ap Ok f.counts)

-- "M, O then never fall below zero": of an accepted return they are the plain numbers 100 K - L and (100 K - L) x N, with no sign
pub m_never_below : (s : List ℕ) (c : Counts) → verdict_of s ≡ Ok c
    → (figures_of (by_kind s)).stocks.m ≡ net_dry_matter (pos (100 * column_k (rows 3 s) - column_l (rows 1 s)))
unfolding stocks_of entered totals_of
m_never_below s c accepted = plain_m (column_k (rows 3 s)) (column_l (rows 1 s)) (wood_good s c accepted)

pub o_never_below : (s : List ℕ) (c : Counts) → verdict_of s ≡ Ok c
    → (figures_of (by_kind s)).stocks.o ≡ net_carbon (pos ((100 * column_k (rows 3 s) - column_l (rows 1 s)) * (given (by_kind s)).n))
unfolding stocks_of entered totals_of
o_never_below s c accepted = plain_o (column_k (rows 3 s)) (column_l (rows 1 s)) (wood_good s c accepted) (given (by_kind s)).n

pub m_sign : (s : List ℕ) (c : Counts) → verdict_of s ≡ Ok c → (figures_of (by_kind s)).stocks.m.0.below ≡ false
m_sign s c accepted = ap (λ m. m.0.below) (m_never_below s c accepted)

pub o_sign : (s : List ℕ) (c : Counts) → verdict_of s ≡ Ok c → (figures_of (by_kind s)).stocks.o.0.below ≡ false
o_sign s c accepted = ap (λ o. o.0.below) (o_never_below s c accepted)

-- "P may": it does in case (d)
pub p_may_be_below : ((s : List ℕ) (v : Figures) → outcome_of s ≡ worked v → v.stocks.p.0.below ≡ false) → ⊥
p_may_be_below never = let e : ◌≡◌ {A = Bool} true false = never (nth 3).bytes _ spent_answered in absurd (true≢false e)
