-- What a row says. Assumes nothing.
--     first-length    its first n numbers are n; first_at, number i of them is what field i says
--     wrong_none, wrong_first    a row by the first of its fields that is at fault
--     whole_says      a row that is whole: each of its fields says the number of its place
--     says-whole      and the other way: where each field says a row's number, the row is whole, and these are its numbers
use Prim.Native.Nat.{ℕ, zero, suc, ◌<◌}
use mathlib.Core.Path.{◌≡◌, refl, sym, ap, subst, ◌∙◌}
use mathlib.Core.Bool.{true, false, true≢false}
use mathlib.Core.List.{List, [], ◌∷◌}
use mathlib.Core.Logic.{⊎_elim}
use native.Mathlib.Nat.{le_of_suc-le-suc, not-suc-le-zero, eq-or-lt_of_le}
use native.Mathlib.Omega.{arith}
use lib.ListN.{length, get_or, length-append, get_or-append}
use lib.Seq.{get_or_at, ext_get_or}
use Rattle.std.specs.Prelude.{Result, Ok, Err, None, Option, Some}
use Rattle.form.specs.First.{first}
use Rattle.form.specs.Layout.{numbers_of}
use Rattle.form.proofs.Search.{first_at as first_there, first_none, first_is_none}
use Rattle.rowtext.specs.Said.{number_in, is_wrong, at_fault, said_at, first_numbers, numbers_said, wrong_at, first_wrong, said_by, row_said}
use Rattle.rowtext.specs.declared.FieldFault.{FieldFault}

-- what is not at fault is a number
not_wrong : (s : Result ℕ FieldFault) → is_wrong s ≡ false → s ≡ Ok (number_in s)
not_wrong (Ok n) e = refl
not_wrong (Err f) e = absurd (true≢false e)

module _ (sep kind : ℕ) (line : List ℕ) where
  pub first-length : (n : ℕ) → length (first_numbers sep kind line n) ≡ n
  unfolding first_numbers
  first-length zero = refl
  first-length (suc n) = omega (arith, length-append (first_numbers sep kind line n) (number_in (said_at sep kind line n) ∷ []), first-length n)

  pub first_at : (n i : ℕ) → i < n → get_or (first_numbers sep kind line n) i 0 ≡ number_in (said_at sep kind line i)
  unfolding first_numbers
  first_at zero i h = absurd (not-suc-le-zero h)
  first_at (suc n) i h = ⊎_elim last (λ l. before l (first_at n i l)) (eq-or-lt_of_le (le_of_suc-le-suc h))
    where
      last : i ≡ n → get_or (first_numbers sep kind line (suc n)) i 0 ≡ number_in (said_at sep kind line i)
      last q =
          subst (λ (k : ℕ). get_or (first_numbers sep kind line (suc n)) k 0 ≡ number_in (said_at sep kind line k)) (sym q)
          (get_or_at (first_numbers sep kind line n) (number_in (said_at sep kind line n)) [] 0 n (first-length n))

      before : i < n → get_or (first_numbers sep kind line n) i 0 ≡ number_in (said_at sep kind line i)
          → get_or (first_numbers sep kind line (suc n)) i 0 ≡ number_in (said_at sep kind line i)
      before l e = get_or-append (first_numbers sep kind line n) (number_in (said_at sep kind line n) ∷ []) 0 i (omega (arith, first-length n)) ∙ e

  -- a row is whole just where no field is at fault
  nowhere : (s : Option ℕ) → first_wrong sep kind line ≡ s → said_by sep kind line s ≡ Ok tt → s ≡ None
  nowhere None q e = refl
  nowhere (Some i) q e = absurd (sound (said_at sep kind line i) (first_there (wrong_at sep kind line) q).1 e)
    where
      sound : (s : Result ℕ FieldFault) → is_wrong s ≡ true → at_fault i s ≡ Ok tt → ⊥
      sound (Ok n) w e = true≢false (sym w)
      sound (Err f) w e = let z : ◌≡◌ {A = ℕ} 0 1 = cc in omega arith

  none_wrong : row_said sep kind line ≡ Ok tt → first (wrong_at sep kind line) (numbers_of kind) ≡ None
  unfolding row_said
  none_wrong e = nowhere (first_wrong sep kind line) refl e

  pub wrong_none : first (wrong_at sep kind line) (numbers_of kind) ≡ None → row_said sep kind line ≡ Ok tt
  unfolding row_said
  wrong_none e = ap (said_by sep kind line) e

  pub wrong_first : (i : ℕ) → first (wrong_at sep kind line) (numbers_of kind) ≡ Some i → row_said sep kind line ≡ at_fault i (said_at sep kind line i)
  unfolding row_said
  wrong_first i e = ap (said_by sep kind line) e

  pub whole_says : row_said sep kind line ≡ Ok tt → (i : ℕ) → i < numbers_of kind → said_at sep kind line i ≡ Ok (get_or (numbers_said sep kind line) i 0)
  whole_says e i h =
      not_wrong (said_at sep kind line i) (first_none (wrong_at sep kind line) (none_wrong e) i h)
      ∙ ap Ok (sym (first_at (numbers_of kind) i h))

  pub says-whole : (r : List ℕ) → length r ≡ numbers_of kind → ((i : ℕ) → i < numbers_of kind → said_at sep kind line i ≡ Ok (get_or r i 0))
      → (row_said sep kind line ≡ Ok tt) × (numbers_said sep kind line ≡ r)
  says-whole r e h = (
    wrong_none (first_is_none (wrong_at sep kind line) (numbers_of kind) (λ i l. ap is_wrong (h i l))),
    ext_get_or 0 (numbers_said sep kind line) r (first-length (numbers_of kind) ∙ sym e) same,
  )
    where
      same : (i : ℕ) → i < length (numbers_said sep kind line) → get_or (numbers_said sep kind line) i 0 ≡ get_or r i 0
      same i l =
          let l' : i < numbers_of kind = omega (arith, first-length (numbers_of kind)) in
          first_at (numbers_of kind) i l' ∙ ap number_in (h i l')
