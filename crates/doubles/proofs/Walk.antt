-- The conversion rows of a return, one after the other. Assumes nothing.
--     counted                      there are as many as the counts say
--     onward_start, -next, -end    the loop that adds the rows up: where it begins, one row more, where it ends
use mathlib.Core.Path.{◌≡◌, refl, sym, ap, ◌∙◌}
use mathlib.Core.List.{List, []}
use Prim.Native.Nat.{ℕ, ◌+◌, ◌<◌}
use native.Mathlib.Nat.{le_of_eq}
use native.Mathlib.Numerals.{add-one}
use lib.ListN.{length, get_or, drop, drop_of_length-le}
use lib.Seq.{drop-cons}
use Rattle.form.specs.Verdict.{rows, Formed}
use Rattle.form.specs.declared.Counts.{Counts}
use Rattle.standing.proofs.Accepted.{rows-length, formed_counts}
use Rattle.doubles.specs.Subtotals.{add_rows, add_all}
use Rattle.doubles.specs.Steps.{double_parts_of, plus_of}
use Rattle.doubles.specs.declared.Doubles.{Doubles}

-- there are as many conversion rows as the counts say
pub counted : (s : List ℕ) (c : Counts) → Formed s c → length (rows 1 s) ≡ c.conversion
counted s c acc = rows-length s c acc 1 ∙ sym (ap (λ (k : Counts). k.conversion) (formed_counts s c acc))

-- subtotals of the first i rows, with the rows from i on added
unfoldable pub onward : List (List ℕ) → ℕ → Doubles → Doubles
onward rs i t = add_all t (drop i rs)

module _ (rs : List (List ℕ)) where
  pub onward_start : (t : Doubles) → onward rs 0 t ≡ add_all t rs
  unfolding onward
  onward_start t = refl

  pub onward-next : (i : ℕ) (t : Doubles) {r : List ℕ} {p q u : Doubles} → i < length rs → get_or rs i [] ≡ r
      → onward rs i t ≡ u → p ≡ double_parts_of r → q ≡ plus_of t p → onward rs (i + 1) q ≡ u
  unfolding onward add_rows
  onward-next i t l e o f g = rw (g, f, ← e, add-one i) (rw (drop-cons rs i [] l) at o)

  pub onward-end : (i : ℕ) (t : Doubles) → i ≡ length rs → onward rs i t ≡ t
  unfolding onward add_rows
  onward-end i t e = rw (drop_of_length-le rs (le_of_eq (sym e)))
