-- Stores at the front of a room, and the ways out of the judge for C. Assumes nothing.
use Prim.Native.Nat.{ℕ, suc, ◌+◌, ◌*◌, ◌≤◌, ◌<◌}
use mathlib.Core.Path.{◌≡◌, refl, ap, ◌∙◌}
use mathlib.Core.List.{List, [], ◌∷◌}
use native.Mathlib.Omega.{arith}
use lib.ListN.{length, get_or, drop, set, length-set, drop_of_length-le}
use lib.Seq.{sets, drop-cons}
use native.Mathlib.Numerals.{add-one}
use Rattle.filing.proofs.Stores.{sets-front}
use Rattle.form.specs.Ruling.{too_short, on_front, ruling}
use Rattle.form.specs.Verdict.{rules, verdict_of}
use Rattle.form.specs.declared.Counts.{Counts}
use Rattle.form.specs.Refusals.{Clean, Refused, Ruling}
use Rattle.std.specs.Prelude.{Ok}
use Rattle.form.proofs.Order.{ruled_before, kept-before, too_short_lem, long_enough}
use Rattle.form.proofs.Meaning.{refused-ruling}
use Rattle.standing.proofs.Accepted.{accepted-ruling, formed, formed_counts}
use Rattle.counted.specs.Counts.{held, counts_room, judge_call, counts_after}

-- numbers handed over one by one: the first k stand at the front
pub record Handing (vs d₀ d : List ℕ) (k : ℕ) : Type 0 where
  pub within : k ≤ length vs
  pub same : length d ≡ length d₀
  pub whole : sets d k (drop k vs) ≡ sets d₀ 0 vs

pub handing_none : {vs d : List ℕ} → Handing vs d d 0
handing_none = record { within = omega arith; same = refl; whole = refl }

pub handing_more : {vs d₀ d : List ℕ} {k v : ℕ} → Handing vs d₀ d k → k < length vs → v ≡ get_or vs k 0 → Handing vs d₀ (set d k v) (k + 1)
handing_more {vs} {d₀} {d} {k} {v} h l e =
    record { within = omega arith; same = length-set d k v ∙ h.same; whole = rw (add-one k, e) (rw (drop-cons vs k 0 l) at h.whole) }

pub handing_all : {vs d₀ d : List ℕ} {k : ℕ} → Handing vs d₀ d k → length vs ≤ k → length vs ≤ length d₀ → d ≡ on_front vs d₀
handing_all {vs} {d₀} {d} {k} h l r = rw (drop_of_length-le vs {i = k} l) at h.whole ∙ sets-front d₀ vs r

-- the three ways out of the judge for C
module _ (s room : List ℕ) where
  -- what the answer r and the room l are
  abbrev Out : Ruling → List ℕ → Type 0
  Out r l = (r ≡ judge_call s room) × (l ≡ counts_after s room (judge_call s room))

  pub refused_out : (n p : ℕ) → verdict_of s ≡ Refused n p → Out (Refused n p) room
  refused_out n p e = rw (ruled_before (rules s) (too_short counts_room room ∷ []) (refused-ruling s n p e)) (refl, refl)

  -- of an accepted return, the room is left
  left : {c : Counts} → verdict_of s ≡ Ok c → judge_call s room ≡ ruling (too_short counts_room room ∷ [])
  left e = kept-before (rules s) _ (accepted-ruling s _ e)

  pub short_out : (c : Counts) → verdict_of s ≡ Ok c → length room < counts_room → Out (Refused 9 0) room
  short_out c e l = rw (left e ∙ too_short_lem counts_room room l) (refl, refl)

  pub done_out : (c : Counts) (l : List ℕ) → verdict_of s ≡ Ok c → counts_room ≤ length room → l ≡ on_front (held c) room → Out Clean l
  done_out c l e h q = rw (left e ∙ long_enough counts_room room h) (refl, q ∙ ap (λ (x : Counts). on_front (held x) room) (formed_counts s c (formed s c e)))
