-- The tally of some returns. Assumes nothing.
--     tally-front     by the first return and the tally of the others
--     tally-last      and by the last: the step that a run takes
--     front_swap      two returns in front, in either order
--     alone           the accepted ones by themselves have the same ledger; twice, one that is present twice; lone, one by itself
--     counted         every return is accepted or refused; step_count, one more by a step
use Prim.Native.Nat.{ℕ, suc, ◌+◌}
use mathlib.Core.Path.{◌≡◌, refl, sym, ap, ap₂, ◌∙◌}
use mathlib.Core.List.{List, [], ◌∷◌, ◌++◌, map}
use native.Mathlib.Omega.{arith}
use lib.IntN.{ℤ, pos, ◌+ℤ◌, ◌*ℤ◌, +ℤ_idr}
use lib.ListN.{length}
use Rattle.form.specs.Sums.{column_k, column_l}
use Rattle.form.specs.Verdict.{rows, verdict_of}
use Rattle.form.specs.declared.Counts.{Counts}
use Rattle.form.specs.Refusals.{Verdict}
use Rattle.std.specs.Prelude.{Ok, Err}
use Rattle.wide.specs.Signs.{amount, signed_of}
use Rattle.wide.proofs.SignLaws.{form-holds}
use Rattle.totals.specs.Columns.{column_e, onsite_total, offsite_total, decay_total}
use Rattle.totals.specs.Masses.{dry_matter}
use Rattle.totals.specs.Sums.{totals_of}
use Rattle.units.specs.Columns.{column_m}
use Rattle.matter.proofs.Adding.{words_alone, matter_alone}
use Rattle.ledger.specs.Ledger.{entered, plus, none, sum_ledgers}
use Rattle.worksheets.specs.Sheets.{by_kind, given}
use Rattle.ledger.specs.declared.Ledger.{Ledger}
use Rattle.ledger.proofs.Adding.{plus_comm, plus_assoc, plus_swap}
use Rattle.gathered.specs.Gathered.{ledger_in, if_accepted, accepted_of, refused_of, tally_of, count_of, step_by, step_of}
use Rattle.gathered.specs.declared.Tally.{Tally}

-- a return in front of others
abbrev pub front_by : List ℕ → Verdict → Tally → Tally
front_by r (Ok c) t = record { accepted = suc t.accepted; refused = t.refused; ledger = plus (ledger_in r) t.ledger }
front_by r (Err refusal) t = record { accepted = t.accepted; refused = suc t.refused; ledger = t.ledger }

front_by_lem : (r : List ℕ) (rs : List (List ℕ)) (v : Verdict) → verdict_of r ≡ v → tally_of (r ∷ rs) ≡ front_by r v (tally_of rs)
unfolding tally_of accepted_of refused_of
front_by_lem r rs (Ok c) e = rw e
front_by_lem r rs (Err refusal) e = rw e

pub tally-front : (r : List ℕ) (rs : List (List ℕ)) → tally_of (r ∷ rs) ≡ front_by r (verdict_of r) (tally_of rs)
tally-front r rs = front_by_lem r rs (verdict_of r) refl

pub front_swap : (r s : List ℕ) (u v : Verdict) (t : Tally) → front_by r u (front_by s v t) ≡ front_by s v (front_by r u t)
front_swap r s (Ok c) (Ok d) t =
    ap (λ (g : Ledger). record { accepted = suc (suc t.accepted); refused = t.refused; ledger = g }) (plus_swap (ledger_in r) (ledger_in s) t.ledger)
front_swap r s (Ok c) (Err refusal) t = refl
front_swap r s (Err refusal) (Ok d) t = refl
front_swap r s (Err refusal) (Err x) t = refl

-- one behind the others
next-count : (n : ℕ) → suc (n + 1) ≡ suc n + 1
next-count n = omega arith

front_step : (r s : List ℕ) (u v : Verdict) (t : Tally) → front_by r u (step_by t s v) ≡ step_by (front_by r u t) s v
front_step r s (Ok c) (Ok d) t =
    λ i. record { accepted = next-count t.accepted i; refused = t.refused; ledger = sym (plus_assoc (ledger_in r) t.ledger (ledger_in s)) i }
front_step r s (Ok c) (Err refusal) t = refl
front_step r s (Err refusal) (Ok d) t = refl
front_step r s (Err refusal) (Err x) t = λ i. record { accepted = t.accepted; refused = next-count t.refused i; ledger = t.ledger }

first_step : (s : List ℕ) (v : Verdict) → front_by s v (tally_of []) ≡ step_by (tally_of []) s v
unfolding tally_of accepted_of refused_of
first_step s (Ok c) = ap (λ (g : Ledger). record { accepted = 1; refused = 0; ledger = g }) (plus_comm (ledger_in s) none)
first_step s (Err r) = refl

pub tally-last : (rs : List (List ℕ)) (s : List ℕ) → tally_of (rs ++ (s ∷ [])) ≡ step_of (tally_of rs) s
tally-last [] s = tally-front s [] ∙ first_step s (verdict_of s)
tally-last (r ∷ rs) s =
    tally-front r (rs ++ (s ∷ []))
    ∙ ap (front_by r (verdict_of r)) (tally-last rs s)
    ∙ front_step r s (verdict_of r) (verdict_of s) (tally_of rs)
    ∙ ap (λ (t : Tally). step_of t s) (sym (tally-front r rs))

-- every return is counted once
count_by : (r : List ℕ) (v : Verdict) (t : Tally) → count_of (front_by r v t) ≡ suc (count_of t)
count_by r (Ok c) t = omega arith
count_by r (Err refusal) t = omega arith

pub counted : (rs : List (List ℕ)) → count_of (tally_of rs) ≡ length rs
unfolding tally_of accepted_of refused_of
counted [] = refl
counted (r ∷ rs) = ap count_of (tally-front r rs) ∙ count_by r (verdict_of r) (tally_of rs) ∙ ap suc (counted rs)

-- "The totals equal those of the accepted returns": these by themselves are all accepted, and have the same ledger
kept_by : (r : List ℕ) (v : Verdict) (xs : List (List ℕ)) → verdict_of r ≡ v → accepted_of (if_accepted v (r ∷ xs) xs) ≡ if_accepted v (r ∷ accepted_of xs) (accepted_of xs)
unfolding accepted_of
kept_by r (Ok c) xs e = rw e
kept_by r (Err refusal) xs e = refl

pub kept_twice : (rs : List (List ℕ)) → accepted_of (accepted_of rs) ≡ accepted_of rs
unfolding accepted_of
kept_twice [] = refl
kept_twice (r ∷ rs) =
    kept_by r (verdict_of r) (accepted_of rs) refl
    ∙ ap (λ (x : List (List ℕ)). if_accepted (verdict_of r) (r ∷ x) x) (kept_twice rs)

left_by : (r : List ℕ) (v : Verdict) (xs : List (List ℕ)) → verdict_of r ≡ v → refused_of (if_accepted v (r ∷ xs) xs) ≡ refused_of xs
unfolding refused_of
left_by r (Ok c) xs e = rw e
left_by r (Err refusal) xs e = refl

none_left : (rs : List (List ℕ)) → refused_of (accepted_of rs) ≡ []
unfolding accepted_of refused_of
none_left [] = refl
none_left (r ∷ rs) = left_by r (verdict_of r) (accepted_of rs) refl ∙ none_left rs

pub alone : (rs : List (List ℕ)) → tally_of (accepted_of rs) ≡ record { accepted = (tally_of rs).accepted; refused = 0; ledger = (tally_of rs).ledger }
unfolding tally_of
alone rs = λ i. record {
  accepted = length (kept_twice rs i);
  refused = length (none_left rs i);
  ledger = sum_ledgers (map ledger_in (kept_twice rs i));
}

-- a step counts one return more
step_by_lem : (t : Tally) (s : List ℕ) (v : Verdict) → count_of (step_by t s v) ≡ suc (count_of t)
step_by_lem t s (Ok c) = omega arith
step_by_lem t s (Err r) = omega arith

pub step_count : (t : Tally) (s : List ℕ) → count_of (step_of t s) ≡ suc (count_of t)
step_count t s = step_by_lem t s (verdict_of s)

-- "A return present twice counts twice."
pub twice : (r : List ℕ) (rs : List (List ℕ)) {c : Counts} → verdict_of r ≡ Ok c
    → tally_of (r ∷ r ∷ rs) ≡ record { accepted = suc (suc (tally_of rs).accepted); refused = (tally_of rs).refused; ledger = plus (ledger_in r) (plus (ledger_in r) (tally_of rs).ledger) }
twice r rs e =
    tally-front r (r ∷ rs)
    ∙ ap (front_by r (verdict_of r)) (tally-front r rs)
    ∙ ap (λ (v : Verdict). front_by r v (front_by r v (tally_of rs))) e

-- and one by itself has its own ledger, so its figures are its sheets'
signed_alone : (z : ℤ) → signed_of (amount (signed_of z) +ℤ amount (signed_of (pos 0))) ≡ signed_of z
signed_alone z = ap₂ (λ (x y : ℤ). signed_of (x +ℤ y)) (form-holds z).number (form-holds (pos 0)).number ∙ ap signed_of (+ℤ_idr z)

pub ledger_alone : (r : List ℕ) → plus (ledger_in r) none ≡ ledger_in r
unfolding plus entered totals_of
ledger_alone r = λ i. record {
  e = record { 0 = words_alone (column_e (rows 2 r)) i };
  k = record { 0 = words_alone (column_k (rows 3 r)) i };
  l = record { 0 = words_alone (column_l (rows 1 r)) i };
  o = record { 0 = signed_alone (amount (column_m (dry_matter (column_k (rows 3 r))) (dry_matter (column_l (rows 1 r)))).0 *ℤ pos (given (by_kind r)).n) i };
  onsite = record { 0 = words_alone (onsite_total (rows 1 r)) i };
  offsite = record { 0 = words_alone (offsite_total (rows 1 r)) i };
  decay = record { 0 = words_alone (decay_total (rows 1 r)) i };
  matter = matter_alone (rows 1 r) i;
}

pub lone : (r : List ℕ) {c : Counts} → verdict_of r ≡ Ok c → tally_of (r ∷ []) ≡ record { accepted = 1; refused = 0; ledger = ledger_in r }
unfolding tally_of accepted_of refused_of
lone r e = tally-front r [] ∙ ap (λ (v : Verdict). front_by r v (tally_of [])) e ∙ ap (λ (g : Ledger). record { accepted = 1; refused = 0; ledger = g }) (ledger_alone r)
