-- What a verdict says of the bytes, for all lists of bytes. Assumes nothing.
--     refused     refused by number n at place p: rule n is broken there, at no lower place, and no earlier rule is broken anywhere; and only then
--     accepted    no rule is broken anywhere; and only then
--     clean_of    a verdict with counts comes of a clean ruling, and they are the return's
--     small       a refusal's number is below 100, and its place is one of a return's
--     broken_at   the rule with the refusal's number is broken at its place, and at no lower one; given-number, the number is a rule's; length-first, only 1 is given for a length
use Prim.Native.Nat.{ℕ, ◌*◌, ◌^◌, ◌<◌, ◌≤◌}
use mathlib.Core.Path.{◌≡◌, refl, ap, subst}
use mathlib.Core.Logic.{◌↔◌}
use mathlib.Core.Bool.{true}
use mathlib.Core.List.{List, [], ◌∷◌}
use native.Mathlib.Omega.{arith}
use lib.ListN.{length}
use Rattle.form.specs.Ruling.{Rule, ruling}
use Rattle.form.specs.Block.{most_blocks}
use Rattle.form.specs.Verdict.{block_rules, rules, counts_of, verdict_by, verdict_of}
use Rattle.form.specs.declared.Counts.{Counts}
use Rattle.form.specs.Refusals.{Clean, Refused, Ruling}
use Rattle.std.specs.Prelude.{Ok, Err}
use Rattle.form.proofs.Order.{Kept, Least, this, later, AllKept, rule_of, has, apart, BrokenAt, least_has, least_of, ruling_least, ruling-clean, least_ruling, clean-ruling}
use Rattle.form.proofs.Lengths.{few_blocks, short}

broken_of : (s : List ℕ) (u : Ruling) (n p : ℕ) → verdict_by s u ≡ Refused n p → u ≡ Refused n p
broken_of s Clean n p e = let z : ◌≡◌ {A = ℕ} 0 1 = cc in absurd (omega arith)
broken_of s (Err r) n p e = cc

-- an accepted verdict comes of a clean ruling, and has the counts
pub clean_of : (s : List ℕ) (u : Ruling) (c : Counts) → verdict_by s u ≡ Ok c → (u ≡ Clean) × (c ≡ counts_of s)
clean_of s Clean c e = (refl, cc)
clean_of s (Err r) c e = let z : ◌≡◌ {A = ℕ} 0 1 = cc in absurd (omega arith)

pub refused-ruling : (s : List ℕ) (n p : ℕ) → verdict_of s ≡ Refused n p → ruling (rules s) ≡ Refused n p
unfolding verdict_of
refused-ruling s n p e = broken_of s (ruling (rules s)) n p e

pub refused : (s : List ℕ) (n p : ℕ) → (verdict_of s ≡ Refused n p) ↔ Least (rules s) n p
unfolding verdict_of
refused s n p = (λ e. ruling_least (refused-ruling s n p e), λ l. ap (verdict_by s) (least_ruling l))

pub accepted : (s : List ℕ) → (verdict_of s ≡ Ok (counts_of s)) ↔ AllKept (rules s)
unfolding verdict_of
accepted s = (λ e. ruling-clean (clean_of s (ruling (rules s)) (counts_of s) e).0, λ k. ap (verdict_by s) (clean-ruling k))

-- the rules' numbers are apart
pub rules-apart : (s : List ℕ) → apart (rules s) ≡ true
unfolding block_rules
rules-apart s = refl

pub given-number : (s : List ℕ) (n p : ℕ) → verdict_of s ≡ Refused n p → has n (rules s) ≡ true
given-number s n p e = least_has ((refused s n p).0 e)

-- by what the number is known to be
pub broken_at : (s : List ℕ) {n p : ℕ} (m : ℕ) → verdict_of s ≡ Refused n p → n ≡ m → BrokenAt (rule_of m (rules s)) p
broken_at s {n} {p} m e q = subst (λ (x : ℕ). BrokenAt (rule_of x (rules s)) p) q (least_of (rules-apart s) ((refused s n p).0 e))

-- every rule of a list has a number below 100 and few places
abbrev Small : List Rule → Type 0
Small [] = Unit {0}
Small (r ∷ rs) = ((r.number < 100) × (r.places ≤ 12 * most_blocks)) × Small rs

least_in : {rs : List Rule} {n p : ℕ} → Small rs → Least rs n p → (n < 100) × (p < 12 * most_blocks)
least_in h (this l e k) = (h.0.0, omega arith)
least_in h (later k m) = least_in h.1 m

-- a rule after the first is tried on no more blocks than a return can have, so on no more than their places
least_small : (s : List ℕ) (n p : ℕ) → Least (rules s) n p → (n < 100) × (p < 12 * most_blocks)
unfolding block_rules Kept
least_small s n p (this l e h) = (omega arith, omega arith)
least_small s n p (later k m) = let f = few_blocks s (k 0 (omega arith)) in least_in (omega arith) m

pub small : (s : List ℕ) (n p : ℕ) → verdict_of s ≡ Refused n p → (n < 100) × (p < 12 * most_blocks)
small s n p e = least_small s n p ((refused s n p).0 e)

-- where another number than 1 is given, the length is a return's
after_first : (s : List ℕ) {n p : ℕ} → Least (rules s) n p → (n ≡ 1 → ⊥) → length s < 2 ^ 24
unfolding block_rules Kept
after_first s (this l e h) d = absurd (d refl)
after_first s (later k m) d = short s (k 0 (omega arith))

pub length-first : (s : List ℕ) (n p : ℕ) → verdict_of s ≡ Refused n p → (n ≡ 1 → ⊥) → length s < 2 ^ 24
length-first s n p e d = after_first s ((refused s n p).0 e) d
