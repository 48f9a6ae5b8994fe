-- The rules of records, tried by their numbers one after the other, as a loop does. Assumes nothing.
--     records-numbered    they are the rules that have their numbers
--     number_stopped, number_passed, numbers-done    a turn that finds a place, one that finds none, and the end
use Prim.Native.Nat.{ℕ, suc, ◌+◌, ◌<◌, ◌≤◌}
use mathlib.Core.Path.{◌≡◌, refl, sym, ap, ◌∙◌}
use mathlib.Core.List.{List, ◌∷◌}
use native.Mathlib.Numerals.{add-one}
use lib.ListN.{length, get_or, drop, drop_of_length-le}
use lib.Seq.{drop-cons}
use Rattle.form.specs.First.{first}
use Rattle.form.specs.Ruling.{refuse, ruling}
use Rattle.form.specs.Records.{Filed, record_rules, test_of, record_numbers, by_number}
use Rattle.form.specs.Refusals.{Clean, Ruling}
use Rattle.form.specs.declared.Refusal.{Refusal}
use Rattle.std.specs.Prelude.{Option, Err}
use Rattle.form.proofs.Order.{ruled_by, kept_by}

pub records-numbered : (e : ℕ) (f : Filed) → record_rules e f ≡ by_number e f record_numbers
records-numbered e f = refl

module _ (e : ℕ) (f : Filed) (ns : List ℕ) (i : ℕ) {v : Ruling} (so_far : v ≡ ruling (by_number e f (drop i ns))) where
  module _ {n : ℕ} {x : (Option ℕ)} (h : i < length ns) (en : n ≡ get_or ns i 0) (said : x ≡ first (test_of n e f) f.places) where
    here : v ≡ ruling (by_number e f (n ∷ drop (suc i) ns))
    here = so_far ∙ ap (λ (l : List ℕ). ruling (by_number e f l)) (drop-cons ns i 0 h ∙ ap (λ (m : ℕ). m ∷ drop (suc i) ns) (sym en))

    -- by what `refuse` says of it
    module _ {r : Ruling} (refused : r ≡ refuse n x Clean) where
      pub number_stopped : {e : Refusal} → r ≡ Err e → Err e ≡ v
      number_stopped q = ruled_by _ _ said refused q ∙ sym here

      pub number_passed : r ≡ Clean → v ≡ ruling (by_number e f (drop (i + 1) ns))
      number_passed q = rw (add-one i) (here ∙ sym (kept_by _ _ said refused q))

  pub numbers-done : length ns ≤ i → Clean ≡ v
  unfolding ruling
  numbers-done h = sym (so_far ∙ ap (λ (l : List ℕ). ruling (by_number e f l)) (drop_of_length-le ns h))
