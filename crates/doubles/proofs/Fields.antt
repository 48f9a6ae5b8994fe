-- A conversion record's fields, each where the code reads it. Assumes nothing.
--     onsite_at, offsite_at, decay_at   a row's doubles from its bytes; `burnt_at` counts from its first fraction
--     part_same, doubles_same           a part, and three doubles, each by its equals
use mathlib.Core.Path.{◌≡◌, refl, ap, ◌∙◌}
use mathlib.Core.List.{List}
use Prim.Native.Nat.{ℕ, ◌+◌}
use native.Mathlib.Nat.{add_assoc}
use Rattle.form.specs.Bytes.{number}
use Rattle.form.specs.Layout.{conversion, row_from, row_at}
use Rattle.form.specs.Records.{counted_difference}
use Rattle.doubles.specs.Subtotals.{part_of, onsite_double, offsite_double, decay_double}
use Rattle.doubles.specs.declared.Doubles.{Doubles}
use lib.Ieee.{Float}

pub part_same : {a a' d d' f f' o o' k k' : ℕ} → a ≡ a' → d ≡ d' → f ≡ f' → o ≡ o' → k ≡ k' → part_of a d f o k ≡ part_of a' d' f' o' k'
part_same {a} {a'} {d} {d'} {f} {f'} {o} {o'} {k} {k'} ea ed ef eo ek =
    ap (λ (x : ℕ). part_of x d f o k) ea
    ∙ ap (λ (x : ℕ). part_of a' x f o k) ed
    ∙ ap (λ (x : ℕ). part_of a' d' x o k) ef
    ∙ ap (λ (x : ℕ). part_of a' d' f' x k) eo
    ∙ ap (λ (x : ℕ). part_of a' d' f' o' x) ek

abbrev three : Float → Float → Float → Doubles
three x y z = record { onsite = x; offsite = y; decay = z }

pub doubles_same : {x x' y y' z z' : Float} → x ≡ x' → y ≡ y' → z ≡ z' → three x y z ≡ three x' y' z'
doubles_same {x} {x'} {y} {y'} {z} {z'} ex ey ez =
    ap (λ (u : Float). three u y z) ex ∙ ap (λ (u : Float). three x' u z) ey ∙ ap (λ (u : Float). three x' y' u) ez

module _ (s : List ℕ) (at : ℕ) where
  pub onsite_at : part_of (number 4 s (at + 4)) (counted_difference (number 2 s (at + 8)) (number 2 s (at + 10))) (number 2 s (at + 12)) (number 2 s (at + 12 + 2)) (number 2 s (at + 12 + 4)) ≡ onsite_double (row_at conversion s at)
  unfolding row_from onsite_double
  onsite_at = simp add_assoc

  pub offsite_at : part_of (number 4 s (at + 4)) (counted_difference (number 2 s (at + 8)) (number 2 s (at + 10))) (number 2 s (at + 18)) (number 2 s (at + 18 + 2)) (number 2 s (at + 18 + 4)) ≡ offsite_double (row_at conversion s at)
  unfolding row_from offsite_double
  offsite_at = simp add_assoc

  pub decay_at : part_of (number 4 s (at + 24)) (counted_difference (number 2 s (at + 28)) (number 2 s (at + 30))) (number 2 s (at + 32)) 1000 (number 2 s (at + 34)) ≡ decay_double (row_at conversion s at)
  unfolding row_from decay_double
  decay_at = refl
