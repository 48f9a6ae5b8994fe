-- A program that reads a return at a time. Assumes nothing.
--     returned-fits               where a return comes next, the run has room for it, and it is there
--     ready_begin, ready-after    a run has room for every turn; ready-end, and for its end; counts, each counts one return more
use Rattle.std.specs.Prelude.{Ok}
use Prim.Native.Nat.{ℕ, suc, ◌+◌, ◌*◌, ◌≤◌}
use mathlib.Core.Path.{◌≡◌, refl, sym, ap, subst, ◌∙◌}
use mathlib.Core.List.{List, []}
use native.Mathlib.Omega.{arith}
use lib.ListN.{length, take}
use Rattle.form.specs.Verdict.{verdict_of}
use Rattle.form.specs.Refusals.{Verdict}
use Rattle.std.specs.Prelude.{Ok, Err}
use Rattle.ledger.specs.Ledger.{Bounded}
use Rattle.ledger.specs.Several.{AtMost}
use Rattle.ledger.proofs.Adding.{at_most_none, at_most_plus, at_most_bounded}
use Rattle.cutting.specs.Cutting.{next_after}
use Rattle.cutting.proofs.Going.{return-after, size_of}
use Rattle.gathered.specs.Gathered.{ledger_in, accepted_of, refused_of, tally_of, count_of, step_by, Roomy}
use Rattle.gathered.specs.declared.Tally.{Tally}
use Rattle.gathered.proofs.Tallies.{step_count}
use Rattle.gathered.proofs.Sizes.{one_return}
use Rattle.national.specs.Steps.{line_room, Ready, Further}
use Rattle.national.specs.declared.Run.{Run}

pub ready_begin : {t : Tally} {at : ℕ} → t ≡ tally_of [] → at ≡ 0 → Ready t at
unfolding tally_of accepted_of refused_of
ready_begin {t} {at} e z = subst (λ (x : Tally). Ready x at) (sym e) (record { count = omega arith; ledger = at_most_none; place = omega arith })

module _ (t : Tally) (at : ℕ) (r : Ready t at) (seen : List ℕ) {n : ℕ} (e : next_after (count_of t) seen ≡ Ok n) where
  pub returned-fits : Roomy t × (n ≤ length seen) × (at + line_room ≤ line_room * 500)
  returned-fits =
      let a = return-after seen (count_of t) n e in
      (record { count = a.0; ledger = r.ledger }, (size_of seen n a.1).there, omega (arith, r.place, a.0))

-- a step leaves room
step_sized : (t : Tally) (s : List ℕ) (v : Verdict) → verdict_of s ≡ v → AtMost t.accepted t.ledger → AtMost (step_by t s v).accepted (step_by t s v).ledger
step_sized t s (Ok c) e h = at_most_plus t.accepted 1 t.ledger (ledger_in s) h (one_return s c e)
step_sized t s (Err r) e h = h

module _ (run : Run) (seen before after : List ℕ) (next : Run) (ready : Ready run.tally run.at) (h : Further run seen before after next) where
  pub counts : count_of next.tally ≡ suc (count_of run.tally)
  counts = ap count_of h.tally ∙ step_count run.tally (take h.size seen)

  pub ready-after : Ready next.tally next.at
  ready-after =
      let few = (return-after seen (count_of run.tally) h.size h.comes).0 in
      let r = take h.size seen in
      record {
        count = omega (arith, few, counts);
        ledger = subst (λ (t : Tally). AtMost t.accepted t.ledger) (sym h.tally) (step_sized run.tally r (verdict_of r) refl ready.ledger);
        place = omega (arith, ready.place, h.lines.1, counts);
      }

pub ready-end : {t : Tally} {at : ℕ} → Ready t at → Bounded t.ledger × (at ≤ line_room * 500)
ready-end r = (at_most_bounded r.ledger (omega (arith, r.count)), omega (arith, r.count, r.place))
