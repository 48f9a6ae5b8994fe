-- The ways out of `heaviest`, for all bytes and every code. Assumes nothing.
--     refused-answer    a refused return: the sheets' refusal, whatever the code
--     code-answer       an accepted return and a code above 2: 11
--     named-answer      an accepted return and one of the three subtotals: its heaviest row by name
--     row_weighs        a row that is named is the heaviest, and its part is not 0
--     none_at_zero      none is named just where the subtotal is zero
--     part_0, part_1, part_2    the parts by their codes
use Prim.Native.Nat.{ℕ, ◌≤◌, ◌<◌}
use mathlib.Core.Path.{◌≡◌, refl, sym, ap, subst, ◌∙◌}
use mathlib.Core.List.{List, [], ◌∷◌}
use mathlib.Core.Logic.{◌↔◌}
use native.Mathlib.Decide.{ℕ_discrete}
use native.Mathlib.Omega.{arith}
use borrow.Author.Tests.{lt-ltb, le-ltb, eq-eqb, ne_eqb}
use Rattle.form.specs.Ruling.{ruling}
use Rattle.form.specs.Verdict.{rules, rows, verdict_of}
use Rattle.form.specs.declared.Counts.{Counts}
use Rattle.form.specs.declared.Refusal.{Refusal}
use Rattle.form.specs.Refusals.{Refused}
use Rattle.heaviest.specs.Named.{NoRow, Row}
use Rattle.std.specs.Prelude.{Ok, Err}
use Rattle.form.proofs.Order.{ruled_before, kept-before, one_broken, one_kept}
use Rattle.form.proofs.Meaning.{refused-ruling}
use Rattle.standing.proofs.Accepted.{accepted-ruling, formed}
use Rattle.form.specs.Sums.{sum_of}
use Rattle.totals.specs.Columns.{onsite_part, offsite_part, decay_part}
use Rattle.totals.specs.Codes.{wrong_code}
use Rattle.heaviest.specs.Heaviest.{part_by, heaviest_by, named_of, heaviest_rules, named_by, heaviest_answer}
use Rattle.heaviest.specs.Largest.{Weighs}
use Rattle.heaviest.specs.declared.Weight.{Weight}
use Rattle.heaviest.proofs.Largest.{heaviest-zero, heaviest_weighs}

pub part_0 : part_by 0 ≡ onsite_part
unfolding part_by
part_0 = refl

pub part_1 : part_by 1 ≡ offsite_part
unfolding part_by
part_1 = refl

pub part_2 : part_by 2 ≡ decay_part
unfolding part_by
part_2 = refl

-- what a name says of the weight
named-row : (w : Weight) {i p : ℕ} → named_of w ≡ Row i p → (0 < p) × (w ≡ record { id = i; part = p })
unfolding named_of
named-row w {i} {p} e = go (ℕ_discrete w.part 0)
  where
    go : Dec (w.part ≡ 0) → (0 < p) × (w ≡ record { id = i; part = p })
    go (yes z) = let q = rw (eq-eqb w.part 0 z) at e in let x : ◌≡◌ {A = ℕ} 0 1 = cc in absurd (omega arith)
    go (no z) = let q = rw (ne_eqb w.part 0 z) at e in let x : w.part ≡ p = cc in let y : w.id ≡ i = cc in (omega arith, rw (← x, ← y))

named_none : (w : Weight) → (named_of w ≡ NoRow) ↔ (w.part ≡ 0)
unfolding named_of
named_none w = (λ e. go e (ℕ_discrete w.part 0), λ z. rw (eq-eqb w.part 0 z))
  where
    go : named_of w ≡ NoRow → Dec (w.part ≡ 0) → w.part ≡ 0
    go e (yes z) = z
    go e (no z) = let q = rw (ne_eqb w.part 0 z) at e in let x : ◌≡◌ {A = ℕ} 0 1 = cc in absurd (omega arith)

module _ (s : List ℕ) (code : ℕ) where
  pub refused-answer : {w : Refusal} → verdict_of s ≡ Err w → heaviest_answer s code ≡ Err w
  refused-answer {w} e = ap (named_by s code) (ruled_before (rules s) (wrong_code code ∷ []) (refused-ruling s w.number w.place e))

  module _ {c : Counts} (acc : verdict_of s ≡ Ok c) where
    -- the rule of the code is left
    left : ruling (heaviest_rules s code) ≡ ruling (wrong_code code ∷ [])
    left = kept-before (rules s) (wrong_code code ∷ []) (accepted-ruling s c acc)

    pub code-answer : 2 < code → heaviest_answer s code ≡ Refused 11 0
    code-answer h = ap (named_by s code) (left ∙ one_broken 11 _ [] (lt-ltb 2 code h))

    pub named-answer : code ≤ 2 → heaviest_answer s code ≡ named_of (heaviest_by code s)
    unfolding ruling
    named-answer h = ap (named_by s code) (left ∙ one_kept 11 _ [] (le-ltb 2 code h))

    pub row_weighs : code ≤ 2 → {i p : ℕ} → heaviest_answer s code ≡ Row i p → (0 < p) × Weighs s (part_by code) (record { id = i; part = p })
    row_weighs h e =
        let n = named-row (heaviest_by code s) (sym (named-answer h) ∙ e) in
        (n.0, subst (Weighs s (part_by code)) n.1 (heaviest_weighs s c (formed s c acc) (part_by code)))

    pub none_at_zero : code ≤ 2 → (heaviest_answer s code ≡ NoRow) ↔ (sum_of (part_by code) (rows 1 s) ≡ 0)
    none_at_zero h =
        let n = named_none (heaviest_by code s) in
        let z = heaviest-zero (rows 1 s) (part_by code) in
        (λ e. z.0 (n.0 (sym (named-answer h) ∙ e)), λ e. named-answer h ∙ n.1 (z.1 e))
