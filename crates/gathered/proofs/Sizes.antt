-- No sum overflows: how large an accepted return's ledger is, and that of five hundred. Assumes nothing.
--     wood_enough     rule 12 is kept: L is not above 100 K
--     one_return      an accepted return's ledger is at most that of the largest; ledger_addable, and has room
--     tally-sized     the ledger of a tally is at most that of as many largest returns as were accepted
--     steps-on        a tally has room for one return more, up to 500; tally-roomy, that of less than 500 returns; tally-bounded, that of 500
use Prim.Native.Nat.{ℕ, suc, ◌+◌, ◌-◌, ◌*◌, ◌^◌, ◌<◌, ◌≤◌}
use mathlib.Core.Path.{◌≡◌, refl, sym, ap, subst, ◌∙◌}
use mathlib.Core.Bool.{false}
use mathlib.Core.List.{List, [], ◌∷◌, ◌++◌}
use native.Mathlib.Nat.{le_trans, mul-le-mul}
use native.Mathlib.Numerals.{bound}
use native.Mathlib.Omega.{arith}
use borrow.Author.Tests.{ltb-false}
use lib.Dec.{lit≤}
use lib.IntN.{ℤ, pos, ◌-ℤ◌, ◌*ℤ◌, pos-*ℤ-pos}
use lib.ListN.{length}
use Rattle.form.specs.Layout.{kinds}
use Rattle.form.specs.Records.{filed}
use Rattle.form.specs.Sums.{harvest_part, cleared_part, column_k, column_l, sum_rules}
use Rattle.form.specs.Verdict.{Formed, form_rules, rows, verdict_of}
use Rattle.form.specs.declared.Counts.{Counts}
use Rattle.form.specs.Refusals.{Verdict}
use Rattle.std.specs.Prelude.{Ok, Err}
use Rattle.form.proofs.EachKind.{kinds_are, one_kind}
use Rattle.form.proofs.Order.{Kept, ruling-clean, append_kept, kept_of}
use Rattle.standing.proofs.Accepted.{accepted-ruling, formed}
use Rattle.wide.specs.Numbers.{value, words_of}
use Rattle.wide.specs.Signs.{amount, signed_of}
use Rattle.wide.specs.declared.signed.Signed.{Signed}
use Rattle.wide.proofs.Laws.{value_words}
use Rattle.wide.proofs.SignLaws.{form-holds, minus_above}
use Rattle.totals.specs.Columns.{stock_part, onsite_part, offsite_part, decay_part, column_e, onsite_total, offsite_total, decay_total}
use Rattle.totals.specs.Masses.{dry_matter}
use Rattle.totals.specs.Sums.{totals_of}
use Rattle.totals.proofs.Accepted.{small}
use Rattle.totals.proofs.Limits.{stock-below, harvest-below, cleared-below, onsite-below, offsite-below, decay-below}
use Rattle.units.specs.Columns.{column_m, column_o}
use Rattle.matter.proofs.Sizes.{most_le, return_most}
use Rattle.ledger.specs.Ledger.{entered, none, plus, Bounded}
use Rattle.ledger.specs.Several.{AtMost, Addable}
use Rattle.ledger.proofs.Adding.{at_most_none, at_most_plus, at_most_bounded, at_most_addable}
use Rattle.worksheets.specs.Sheets.{by_kind, given}
use Rattle.worksheets.proofs.Accepted.{ratios}
use Rattle.gathered.specs.Gathered.{ledger_in, accepted_of, tally_of, Roomy}
use Rattle.gathered.specs.declared.Tally.{Tally}
use Rattle.gathered.proofs.Tallies.{front_by, tally-front, counted}

-- O of wood that is enough, by its number
removed_is : (k l n : ℕ) → l ≤ 100 * k → (column_o (column_m (dry_matter k) (dry_matter l)) n).0 ≡ signed_of (pos ((100 * k - l) * n))
removed_is k l n h =
    let m = 100 * k - l in
    let e : pos (100 * value (words_of k)) -ℤ pos (value (words_of l)) ≡ pos m =
    rw ((value_words k).number, (value_words l).number) (sym (minus_above (100 * k) l h)) in
    ap (λ (z : ℤ). signed_of (amount (signed_of z) *ℤ pos n)) e
    ∙ ap (λ (z : ℤ). signed_of (z *ℤ pos n)) (form-holds (pos m)).number
    ∙ ap signed_of (pos-*ℤ-pos m n)

-- what is at most 100 K, by N
removed_small : (m n : ℕ) → m ≤ 32 * 10 ^ 14 → n ≤ 1000 → m * n ≤ 32 * 10 ^ 17
removed_small m n hm hn = grw (bound, hm, hn) (lit≤ tt)

module _ (s : List ℕ) (c : Counts) (acc : verdict_of s ≡ Ok c) where
  pub wood_enough : column_l (rows 1 s) ≤ 100 * column_k (rows 3 s)
  unfolding Kept
  wood_enough = ltb-false (100 * column_k (rows 3 s)) (column_l (rows 1 s)) (kept_of 12 (append_kept (form_rules s) (sum_rules (filed s)) (ruling-clean (accepted-ruling s c acc))).1 0 (omega arith))

  f : Formed s c
  f = formed s c acc

  pub one_return : AtMost 1 (ledger_in s)
  unfolding entered totals_of
  one_return =
      let k = column_k (rows 3 s) in
      let l = column_l (rows 1 s) in
      let n = (given (by_kind s)).n in
      let hk : k ≤ 10 ^ 12 * 32 = small s c f 3 harvest_part (10 ^ 12) (lit≤ tt) (omega (arith, kinds_are)) harvest-below in
      let o = removed_is k l n wood_enough in
      record {
        e = omega (arith, small s c f 2 stock_part (10 ^ 14) (lit≤ tt) (omega (arith, kinds_are)) stock-below, (value_words (column_e (rows 2 s))).number);
        k = omega (arith, hk, (value_words k).number);
        l = omega (arith, small s c f 1 cleared_part (10 ^ 13) (lit≤ tt) one_kind cleared-below, (value_words l).number);
        o = omega (arith, ap (λ (x : Signed). value x.size) o, (value_words ((100 * k - l) * n)).number, removed_small (100 * k - l) n (omega (arith, hk)) (ratios s c f).n);
        upright = ap (λ (x : Signed). x.below) o;
        onsite = omega (arith, small s c f 1 onsite_part (10 ^ 19) (lit≤ tt) one_kind onsite-below, (value_words (onsite_total (rows 1 s))).number);
        offsite = omega (arith, small s c f 1 offsite_part (10 ^ 19) (lit≤ tt) one_kind offsite-below, (value_words (offsite_total (rows 1 s))).number);
        decay = omega (arith, small s c f 1 decay_part (10 ^ 19) (lit≤ tt) one_kind decay-below, (value_words (decay_total (rows 1 s))).number);
        matter = most_le (return_most s c f) (lit≤ tt);
      }

  pub ledger_addable : Addable (ledger_in s)
  ledger_addable = at_most_addable one_return (omega arith)

-- one more in front, and the tally of any returns
front-sized : (r : List ℕ) (v : Verdict) (t : Tally) → verdict_of r ≡ v → AtMost t.accepted t.ledger → AtMost (front_by r v t).accepted (front_by r v t).ledger
front-sized r (Ok c) t e h =
    let n : 1 + t.accepted ≡ suc t.accepted = omega arith in
    rw n at (at_most_plus 1 t.accepted (ledger_in r) t.ledger (one_return r c e) h)
front-sized r (Err refusal) t e h = h

pub tally-sized : (rs : List (List ℕ)) → AtMost (tally_of rs).accepted (tally_of rs).ledger
unfolding tally_of accepted_of
tally-sized [] = at_most_none
tally-sized (r ∷ rs) = subst (λ (t : Tally). AtMost t.accepted t.ledger) (sym (tally-front r rs)) (front-sized r (verdict_of r) (tally_of rs) refl (tally-sized rs))

pub tally-roomy : (rs : List (List ℕ)) → length rs < 500 → Roomy (tally_of rs)
tally-roomy rs h = record { count = omega (arith, counted rs); ledger = tally-sized rs }

-- five hundred returns have room
pub tally-bounded : (rs : List (List ℕ)) → length rs ≤ 500 → Bounded (tally_of rs).ledger
tally-bounded rs h = at_most_bounded (tally-sized rs) (omega (arith, counted rs))
