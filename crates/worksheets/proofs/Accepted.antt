-- The figures of a return. Assumes nothing.
--     ratios          its parameters are within their limits
--     bounded         its ledger has room
--     told            what an answer that meets the contract says; refused_verdict, worked_out, what that says of the verdict
--     same_figures    rows that agree kind by kind have the same figures
use Prim.Native.Nat.{ℕ, suc, ◌^◌, ◌<◌, ◌≤◌}
use mathlib.Core.Path.{◌≡◌, refl, sym, ap, ap₂, ◌∙◌}
use mathlib.Core.List.{List, []}
use native.Mathlib.Omega.{arith}
use lib.Dec.{lit<, lit≤}
use lib.ListN.{get_or}
use Rattle.form.specs.Layout.{field, kinds, parameters_kind, parameters}
use Rattle.form.specs.Sums.{column_k, column_l}
use Rattle.form.specs.Verdict.{rows, Formed, verdict_of}
use Rattle.form.specs.declared.Counts.{Counts}
use Rattle.form.specs.Refusals.{Refused, Verdict}
use Rattle.std.specs.Prelude.{Ok, Err}
use Rattle.worksheets.specs.Answer.{Answer}
use Rattle.form.proofs.EachKind.{kinds_are, parameters-kind}
use Rattle.standing.proofs.Accepted.{one_row, limit_of, within}
use Rattle.wide.specs.Numbers.{value}
use Rattle.wide.proofs.Laws.{value_words}
use Rattle.totals.specs.Columns.{column_e, onsite_total, offsite_total, decay_total}
use Rattle.totals.specs.Masses.{dry_matter}
use Rattle.totals.specs.Sums.{totals_of}
use Rattle.totals.proofs.Accepted.{columns-small}
use Rattle.units.specs.Columns.{column_m}
use Rattle.matter.proofs.Sizes.{most_le, return_most}
use Rattle.ledger.specs.Ledger.{entered, ledger_of, Bounded}
use Rattle.ledger.proofs.Sizes.{size_M, size_O}
use Rattle.worksheets.specs.Sheets.{Within, Rows, by_kind, given, figures_of}
use Rattle.worksheets.specs.Answers.{Outcome, worked, refusal, outcome_by, outcome_of, said, answered}
use Rattle.worksheets.specs.declared.sheets.Figures.{Figures}

module _ (s : List ℕ) (c : Counts) (acc : Formed s c) where
  pub ratios : Within (given (by_kind s))
  ratios = record { n = fits 0 (lit< tt); ratios = record { nc = fits 3 (lit< tt); ch4 = fits 1 (lit< tt); co = fits 2 (lit< tt); n2o = fits 4 (lit< tt); nox = fits 5 (lit< tt) } }
    where
      fits : (i : ℕ) → i < 6 → get_or (get_or (rows parameters_kind s) 0 []) i 0 ≤ (get_or parameters i (field 0 0 0)).limit
      fits i l = limit_of parameters _ i (field 0 0 0) l (within s c acc parameters_kind 0 (lit≤ tt) parameters-kind (omega (arith, one_row s c acc)))

  pub bounded : Bounded (ledger_of (rows 1 s) (rows 2 s) (rows 3 s) (given (by_kind s)).n)
  unfolding entered totals_of
  bounded =
      let w = columns-small s c acc in
      let k : value (dry_matter (column_k (rows 3 s))).0 < 2 ^ 64 = omega (arith, w.1, (value_words (column_k (rows 3 s))).number) in
      let l : value (dry_matter (column_l (rows 1 s))).0 < 2 ^ 64 = omega (arith, w.2, (value_words (column_l (rows 1 s))).number) in
      record {
        e = omega (arith, w.0, (value_words (column_e (rows 2 s))).number);
        k = k;
        l = l;
        o = size_O (column_m (dry_matter (column_k (rows 3 s))) (dry_matter (column_l (rows 1 s)))) (given (by_kind s)).n (size_M (dry_matter (column_k (rows 3 s))) (dry_matter (column_l (rows 1 s))) k l) ratios.n;
        onsite = omega (arith, w.3, (value_words (onsite_total (rows 1 s))).number);
        offsite = omega (arith, w.4, (value_words (offsite_total (rows 1 s))).number);
        decay = omega (arith, w.5, (value_words (decay_total (rows 1 s))).number);
        matter = most_le (return_most s c acc) (lit≤ tt);
      }

outcome_told : (o : Outcome) → said (answered o) ≡ o
outcome_told (worked f) = refl
outcome_told (refusal n p) = refl

-- what an answer r is, by its case a
pub told : (s : List ℕ) {r a : Answer} → r ≡ answered (outcome_of s) → r ≡ a → said a ≡ outcome_of s
told s e q = ap said (sym q ∙ e) ∙ outcome_told (outcome_of s)

-- and of the verdict
refused_by : (s : List ℕ) (v : Verdict) (n p : ℕ) → refusal n p ≡ outcome_by s v → v ≡ Refused n p
refused_by s (Ok c) n p e = let z : ◌≡◌ {A = ℕ} 0 1 = cc in absurd (omega arith)
refused_by s (Err r) n p e =
    let a : r.number ≡ n = cc in
    let b : r.place ≡ p = cc in
    ap₂ (λ (x y : ℕ). Refused x y) a b

pub refused_verdict : (s : List ℕ) (n p : ℕ) → refusal n p ≡ outcome_of s → verdict_of s ≡ Refused n p
refused_verdict s n p e = refused_by s (verdict_of s) n p e

pub record Worked (s : List ℕ) (f : Figures) : Type 0 where
  pub counts : Counts
  pub accepted : verdict_of s ≡ Ok counts
  pub figures : f ≡ figures_of (by_kind s)

worked_by : (s : List ℕ) (u : Verdict) (f : Figures) → verdict_of s ≡ u → worked f ≡ outcome_by s u → Worked s f
worked_by s (Ok c) f a e = record { counts = c; accepted = a; figures = cc }
worked_by s (Err r) f a e = let z : ◌≡◌ {A = ℕ} 0 1 = cc in absurd (omega arith)

pub worked_out : (s : List ℕ) (f : Figures) → worked f ≡ outcome_of s → Worked s f
worked_out s f e = worked_by s (verdict_of s) f refl e

pub same_figures : (a b : Rows) → ((k : ℕ) → k < kinds → a (suc k) ≡ b (suc k)) → figures_of a ≡ figures_of b
same_figures a b h =
    let one = h 0 (omega (arith, kinds_are)) in
    let two = h 1 (omega (arith, kinds_are)) in
    let three = h 2 (omega (arith, kinds_are)) in
    let four = h 3 (omega (arith, kinds_are)) in
    let five = h 4 (omega (arith, kinds_are)) in
    let six = h 5 (omega (arith, kinds_are)) in
    let seven = h 6 (omega (arith, kinds_are)) in
    let eight = h 7 (omega (arith, kinds_are)) in
    rw (one, two, three, four, five, six, seven, eight)
