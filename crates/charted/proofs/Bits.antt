-- The ways out of the charting program's subtotal, and that its doubles are numbers. Assumes nothing.
use Prim.Native.Nat.{ℕ, ◌≤◌, ◌<◌}
use mathlib.Core.Path.{◌≡◌, refl, sym, ap, subst, ◌∙◌}
use mathlib.Core.Bool.{Bool, true, false, not, cond}
use mathlib.Core.List.{List}
use native.Mathlib.Omega.{arith}
use borrow.Author.Tests.{lt-ltb, le-ltb}
use lib.Dec.{T, eqb}
use lib.Ieee.{Float, binary64, is_nan, to_bits}
use lib.ListN.{length}
use Rattle.form.specs.Ruling.{on_front}
use Rattle.form.specs.Bytes.{little_endian}
use Rattle.form.specs.Verdict.{rules, rows, verdict_of}
use Rattle.form.specs.declared.Counts.{Counts}
use Rattle.form.specs.Refusals.{Clean, Refused, Ruling, Verdict}
use Rattle.std.specs.Prelude.{Ok, Err}
use Rattle.form.proofs.Order.{ruled_before, kept-before, one_broken, one_kept, too_short_lem, long_enough}
use Rattle.form.proofs.Meaning.{refused-ruling}
use Rattle.standing.proofs.Accepted.{accepted-ruling}
use Rattle.doubles.specs.declared.Doubles.{Doubles}
use Rattle.doubles.specs.Subtotals.{subtotals_of, answer_by, answer_of}
use Rattle.nearness.proofs.Wholes.{no_nan}
use Rattle.nearness.proofs.Demand.{onsite_demand, offsite_demand, decay_demand}
use Rattle.charted.specs.Subtotal.{subtotal_call, double_by, bits_after}

-- what the answer says of the verdict
refused_by : (s : List ℕ) (v : Verdict) (n p : ℕ) → answer_by s v ≡ Refused n p → v ≡ Refused n p
refused_by s (Ok c) n p e = let z : ◌≡◌ {A = ℕ} 0 1 = cc in absurd (omega arith)
refused_by s (Err r) n p e = cc

pub record Figured (s : List ℕ) (d : Doubles) : Type 0 where
  pub counts : Counts
  pub accepted : verdict_of s ≡ Ok counts
  pub doubles : d ≡ subtotals_of (rows 1 s)

figured_by : (s : List ℕ) (v : Verdict) (d : Doubles) → verdict_of s ≡ v → answer_by s v ≡ Ok d → Figured s d
figured_by s (Ok c) d a e = record { counts = c; accepted = a; doubles = cc }
figured_by s (Err r) d a e = let z : ◌≡◌ {A = ℕ} 0 1 = cc in absurd (omega arith)

pub refused_verdict : (s : List ℕ) (n p : ℕ) → answer_of s ≡ Refused n p → verdict_of s ≡ Refused n p
refused_verdict s n p e = refused_by s (verdict_of s) n p e

pub figured : (s : List ℕ) (d : Doubles) → answer_of s ≡ Ok d → Figured s d
figured s d e = figured_by s (verdict_of s) d refl e

-- one of three numbers is a number
one_number : (a b : Bool) (x y z : Float) → T (not (is_nan x)) → T (not (is_nan y)) → T (not (is_nan z)) → T (not (is_nan (cond a x (cond b y z))))
one_number true b x y z p q r = p
one_number false true x y z p q r = q
one_number false false x y z p q r = r

module _ (s : List ℕ) (code : ℕ) where
  pub number : (d : Doubles) → Figured s d → T (not (is_nan (double_by code d)))
  number d f =
      let c = f.counts in
      let a = f.accepted in
      let t = subtotals_of (rows 1 s) in
      subst (λ (x : Doubles). T (not (is_nan (double_by code x)))) (sym f.doubles)
      (one_number (eqb code 0) (eqb code 1) t.onsite t.offsite t.decay
      (no_nan _ _ (onsite_demand s c a).whole)
      (no_nan _ _ (offsite_demand s c a).whole)
      (no_nan _ _ (decay_demand s c a).whole))

  module _ (room : List ℕ) where
    -- what the answer r and the room l are
    abbrev Out : Ruling → List ℕ → Type 0
    Out r l = (r ≡ subtotal_call s code room) × (l ≡ bits_after s code room (subtotal_call s code room))

    pub refused_out : (n p : ℕ) → answer_of s ≡ Refused n p → Out (Refused n p) room
    refused_out n p e =
        let z : subtotal_call s code room ≡ Refused n p = ruled_before (rules s) _ (refused-ruling s n p (refused_verdict s n p e)) in
        rw z (refl, refl)

    -- of an answer with figures, the two rules of the call are left, in their order: what they are, the definition alone says
    pub code_out : (d : Doubles) → Figured s d → 2 < code → Out (Refused 11 0) room
    code_out d f h =
        let k = accepted-ruling s f.counts f.accepted in
        let z : subtotal_call s code room ≡ Refused 11 0 = kept-before (rules s) _ k ∙ one_broken 11 _ _ (lt-ltb 2 code h) in
        rw z (refl, refl)

    pub short_out : (d : Doubles) → Figured s d → code ≤ 2 → length room < 8 → Out (Refused 9 0) room
    short_out d f h l =
        let k = accepted-ruling s f.counts f.accepted in
        let z : subtotal_call s code room ≡ Refused 9 0 = kept-before (rules s) _ k ∙ one_kept 11 _ _ (le-ltb 2 code h) ∙ too_short_lem 8 room l in
        rw z (refl, refl)

    pub done_out : (d : Doubles) (x : Float) (l : List ℕ) → Figured s d → code ≤ 2 → 8 ≤ length room → x ≡ double_by code d
        → l ≡ on_front (little_endian 8 (to_bits binary64 x)) room → Out Clean l
    done_out d x l f h m e q =
        let k = accepted-ruling s f.counts f.accepted in
        let z : subtotal_call s code room ≡ Clean = kept-before (rules s) _ k ∙ one_kept 11 _ _ (le-ltb 2 code h) ∙ long_enough 8 room m in
        rw z (refl, q ∙ ap (λ (y : Float). on_front (little_endian 8 (to_bits binary64 y)) room) (e ∙ ap (double_by code) f.doubles))
