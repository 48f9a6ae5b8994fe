-- A row read field by field, as the loop goes. Assumes nothing.
--     says_by_unit            what a cell says goes by the unit in a stock row alone, and there only behind the unit itself
--     Reading                 the first i fields are numbers, and stored; reading_none, reading_more, where the loop begins and goes on by one
--     reading_says            what field i says; reading_wrong, reading_all, where it is at fault, and where all are read
use Prim.Native.Nat.{ℕ, ◌+◌, ◌≤◌, ◌<◌}
use mathlib.Core.Path.{◌≡◌, refl, sym, ap, subst, ◌∙◌}
use mathlib.Core.Bool.{Bool, true, false, cond}
use mathlib.Core.List.{List, [], ◌∷◌, ◌++◌}
use native.Mathlib.Numerals.{add-one}
use native.Mathlib.Omega.{arith}
use borrow.Author.Tests.{eqb-true, eqb-false}
use lib.Dec.{eqb}
use lib.ListN.{length, set, length-set}
use lib.Seq.{sets}
use Rattle.std.specs.Prelude.{Result, Ok, Err}
use Rattle.form.specs.First.{first}
use Rattle.form.specs.Layout.{numbers_of}
use Rattle.std.specs.Prelude.{None}
use Rattle.form.proofs.Search.{first-zero, first_more, first_found}
use Rattle.decimal.proofs.DigitLaws.{sets_append}
use Rattle.cells.specs.Lines.{part}
use Rattle.cells.specs.Cells.{cell_at, FieldAt}
use Rattle.cells.specs.declared.Field.{Field}
use Rattle.cells.proofs.FieldLaws.{Begins, first-begins, cell_is, next-begins}
use Rattle.numerals.specs.Numerals.{read_number}
use Rattle.columns.specs.Columns.{is_unit}
use Rattle.columns.proofs.ColumnLaws.{by_unit}
use Rattle.rowtext.specs.Said.{comma_marks, number_said, unit_said, cell_said, number_in, is_wrong, at_fault, unit_in, said_at, first_numbers, wrong_at, row_said}
use Rattle.rowtext.specs.declared.FieldFault.{FieldFault}
use Rattle.rowtext.proofs.Laws.{first-length, wrong_none, wrong_first}

-- ---- one cell

pub says_by_unit : (sep kind u v i : ℕ) (cell : List ℕ) → (kind ≡ 2 → 2 ≤ i → u ≡ v) → cell_said sep kind u i cell ≡ cell_said sep kind v i cell
unfolding cell_said
says_by_unit sep kind u v i cell h =
    ap (λ (d : ℕ). cond (is_unit kind i) (unit_said cell) (number_said (read_number (comma_marks sep) d cell))) (by_unit kind u v i h)

-- ---- the row's fields

pub record Reading (sep kind : ℕ) (line room₀ : List ℕ) (at : ℕ) (room : List ℕ) (from unit i : ℕ) : Type 0 where
  pub within : i ≤ numbers_of kind
  pub same : length room ≡ length room₀
  pub begins : Begins sep line (i + 1) from
  pub units : kind ≡ 2 → 2 ≤ i → unit ≡ unit_in sep line
  pub none : first (wrong_at sep kind line) i ≡ None
  pub stored : room ≡ sets room₀ at (first_numbers sep kind line i)

-- a unit as it is known before field i, and by that field
known : (b : Bool) (unit number u i : ℕ) → eqb i 1 ≡ b → (2 ≤ i → unit ≡ u) → (i ≡ 1 → number ≡ u) → 2 ≤ i + 1 → cond b number unit ≡ u
known true unit number u i e h k l = k (eqb-true i 1 e)
known false unit number u i e h k l = let n : i ≡ 1 → ⊥ = eqb-false i 1 e in h (omega arith)

next_known : (kind unit number u i : ℕ) → (kind ≡ 2 → 2 ≤ i → unit ≡ u) → (kind ≡ 2 → i ≡ 1 → number ≡ u) → kind ≡ 2 → 2 ≤ i + 1 → cond (is_unit kind i) number unit ≡ u
unfolding is_unit
next_known kind unit number u i h k e l = rw e (known (eqb i 1) unit number u i refl (h e) (k e) l)

module _ (sep kind : ℕ) (line room₀ : List ℕ) (at : ℕ) where
  pub reading_none : (unit : ℕ) (r : Field) → FieldAt sep line 0 r → Reading sep kind line room₀ at room₀ r.next unit 0
  unfolding first_numbers
  reading_none unit r f = record {
    within = omega arith;
    same = refl;
    begins = next-begins sep line 0 0 (first-begins sep line) r f;
    units = λ e l. absurd (omega arith);
    none = first-zero (wrong_at sep kind line);
    stored = refl;
  }

  module _ (room : List ℕ) (from unit i : ℕ) (d : Reading sep kind line room₀ at room from unit i) where
    pub reading_says : (r : Field) {s : Result ℕ FieldFault} → FieldAt sep line from r → s ≡ cell_said sep kind unit i (part r.from r.to line) → s ≡ said_at sep kind line i
    reading_says r f e =
        e
        ∙ says_by_unit sep kind unit (unit_in sep line) i (part r.from r.to line) d.units
        ∙ ap (cell_said sep kind (unit_in sep line) i) (cell_is sep line (i + 1) from d.begins r f ∙ ap (λ (k : ℕ). cell_at sep k line) (add-one i))

    pub reading_wrong : (f : FieldFault) → i < numbers_of kind → said_at sep kind line i ≡ Err f
        → (Err (record { field = i; fault = f }) ≡ row_said sep kind line) × (room ≡ sets room₀ at (first_numbers sep kind line i))
    reading_wrong f l e = (
      ap (at_fault i) (sym e)
          ∙ sym (wrong_first sep kind line i (first_found (wrong_at sep kind line) i (numbers_of kind) d.none (ap is_wrong e) l)),
      d.stored,
    )

    pub reading_all : numbers_of kind ≤ i → (Ok tt ≡ row_said sep kind line) × (room ≡ sets room₀ at (first_numbers sep kind line (numbers_of kind)))
    reading_all l =
        let q : i ≡ numbers_of kind = omega (arith, d.within) in (
          sym (wrong_none sep kind line (subst (λ (n : ℕ). first (wrong_at sep kind line) n ≡ None) q d.none)),
          d.stored ∙ ap (λ (n : ℕ). sets room₀ at (first_numbers sep kind line n)) q,
        )

    module _ (number : ℕ) (e : said_at sep kind line i ≡ Ok number) where
      -- the unit's own field says it
      told_here : kind ≡ 2 → i ≡ 1 → number ≡ unit_in sep line
      unfolding cell_said is_unit
      told_here k o = sym (ap number_in (subst (λ (j : ℕ). said_at sep 2 line j ≡ Ok number) o (subst (λ (n : ℕ). said_at sep n line i ≡ Ok number) k e)))

      stored_here : set room (at + i) number ≡ sets room₀ at (first_numbers sep kind line (i + 1))
      unfolding first_numbers
      stored_here =
          let xs = first_numbers sep kind line i in
          rw (add-one i)
          (ap (λ (x : List ℕ). set x (at + i) number) d.stored
          ∙ ap (λ (k : ℕ). set (sets room₀ at xs) (at + k) number) (sym (first-length sep kind line i))
          ∙ sym (sets_append room₀ at xs (number ∷ []))
          ∙ ap (λ (n : ℕ). sets room₀ at (xs ++ n ∷ [])) (sym (ap number_in e)))

      pub reading_more : (r : Field) (unit' : ℕ) → i < numbers_of kind → FieldAt sep line from r → unit' ≡ cond (is_unit kind i) number unit
          → Reading sep kind line room₀ at (set room (at + i) number) r.next unit' (i + 1)
      reading_more r unit' l f u = record {
        within = omega arith;
        same = length-set room (at + i) number ∙ d.same;
        begins = next-begins sep line (i + 1) from d.begins r f;
        units = λ k m. u ∙ next_known kind unit number (unit_in sep line) i d.units told_here k m;
        none = first_more (wrong_at sep kind line) i d.none (ap is_wrong e);
        stored = stored_here;
      }
