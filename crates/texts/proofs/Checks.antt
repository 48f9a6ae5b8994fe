-- A line that counts, test by test. Assumes nothing.
--     row_read, cell_wrong       what `check_row` answers
--     said-edition, no_kind, by_kind     what `check_line` answers
--     below, too_many, other_fields, by_row    what `check_kind` answers
--     line-passed, line_row, line-fault  what `take_line` answers
use Prim.Native.Nat.{ℕ, suc, ◌+◌, ◌-◌, ◌<◌, ◌≤◌}
use mathlib.Core.Path.{◌≡◌, refl, sym, ap, subst, ◌∙◌}
use mathlib.Core.Bool.{true, false, not}
use mathlib.Core.List.{List, [], ◌∷◌}
use native.Mathlib.Omega.{arith}
use lib.ListN.{length, take, get_or}
use lib.Seq.{sets, length-sets, length-take-le}
use borrow.Author.Tests.{eq-eqb, ne_eqb, lt-ltb, le-ltb, le-leb, lt-leb}
use Rattle.std.specs.Prelude.{Result, Ok, Err}
use Rattle.form.specs.Layout.{kinds, numbers_of}
use Rattle.form.proofs.Tests.{taken, left}
use Rattle.cells.specs.Cells.{cell_at, found_in, same_word}
use Rattle.rowtext.specs.Said.{first_numbers, numbers_said, row_said, stored_of}
use Rattle.rowtext.specs.declared.RowFault.{RowFault}
use Rattle.rowtext.proofs.Laws.{first-length}
use Rattle.heads.specs.Heads.{is_passed, fault, edition_word}
use Rattle.heads.specs.declared.Fault.TheVariants as F
use Rattle.heads.specs.declared.TextFault.{TextFault}
use Rattle.texts.specs.declared.Kept.{Kept}
use Rattle.texts.specs.Texts.{Sofar, kind_in, count_of, checked_row, checked_kind, checked, with_row, after_line}
use Rattle.texts.specs.Steps.{onward, stopped, step_by, line_step, kept_as, counted_as, Stored, Ready, RoomFor}
use Rattle.texts.proofs.Adding.{stored-behind}
use Rattle.texts.proofs.Rows.{RowLine, row-said, sound-fits, sound-room, length-fits}

-- ---- its fields

module _ (sep kind n used : ℕ) (l a a' : List ℕ) {r : Result (Unit {0}) RowFault} (q : r ≡ row_said sep kind l) (w : a' ≡ sets a used (first_numbers sep kind l (stored_of kind r))) where
  pub row_read : r ≡ Ok tt → (Ok kind ≡ checked_row n kind (row_said sep kind l)) × (a' ≡ sets a used (numbers_said sep kind l))
  row_read e = (ap (checked_row n kind) (sym e ∙ q), w ∙ ap (λ (x : Result (Unit {0}) RowFault). sets a used (first_numbers sep kind l (stored_of kind x))) e)

  pub cell_wrong : {f : RowFault} → r ≡ Err f
      → (Err (fault n (F.Cell kind f.field f.fault)) ≡ checked_row n kind (row_said sep kind l)) × (length a' ≡ length a)
  cell_wrong e = (ap (checked_row n kind) (sym e ∙ q), ap length w ∙ length-sets a used (first_numbers sep kind l (stored_of kind r)))

-- ---- of a kind

module _ (sep kind n : ℕ) (st : Sofar) (l : List ℕ) {r : Result ℕ TextFault} where
  pub below : kind < st.kind → r ≡ Err (fault n F.Order) → r ≡ checked_kind sep kind st n l
  unfolding checked_kind
  below h q = taken _ (lt-ltb kind st.kind h) q

  module _ (o : st.kind ≤ kind) where
    pub too_many : 32 ≤ count_of st kind → r ≡ Err (fault n F.Rows) → r ≡ checked_kind sep kind st n l
    unfolding checked_kind
    too_many h q = left _ (le-ltb kind st.kind o) (taken _ (le-leb 32 (count_of st kind) h) q)

    module _ (f : count_of st kind < 32) where
      pub other_fields : (found_in sep l ≡ numbers_of kind → ⊥) → r ≡ Err (fault n (F.Fields (numbers_of kind) (found_in sep l))) → r ≡ checked_kind sep kind st n l
      unfolding checked_kind
      other_fields h q =
          left _ (le-ltb kind st.kind o) (left _ (lt-leb 32 (count_of st kind) f) (taken _ (ap not (ne_eqb (found_in sep l) (numbers_of kind) h)) q))

      pub by_row : found_in sep l ≡ numbers_of kind → r ≡ checked_row n kind (row_said sep kind l) → r ≡ checked_kind sep kind st n l
      unfolding checked_kind
      by_row h q =
          left _ (le-ltb kind st.kind o) (left _ (lt-leb 32 (count_of st kind) f) (left _ (ap not (eq-eqb (found_in sep l) (numbers_of kind) h)) q))

-- ---- of any line that counts

module _ (sep n : ℕ) (st : Sofar) (l : List ℕ) {r : Result ℕ TextFault} where
  pub said-edition : same_word edition_word (cell_at sep 0 l) ≡ true → r ≡ Err (fault n F.Edition) → r ≡ checked sep st n l
  unfolding checked
  said-edition h q = taken _ h q

  module _ (e : same_word edition_word (cell_at sep 0 l) ≡ false) {kind : ℕ} (k : kind ≡ kind_in sep l) where
    pub no_kind : kind ≡ 0 → r ≡ Err (fault n F.Kind) → r ≡ checked sep st n l
    unfolding checked
    no_kind h q = left _ e (taken _ (eq-eqb (kind_in sep l) 0 (sym k ∙ h)) q)

    pub by_kind : (kind ≡ 0 → ⊥) → r ≡ checked_kind sep kind st n l → r ≡ checked sep st n l
    unfolding checked
    by_kind h q = left _ e (left _ (ne_eqb (kind_in sep l) 0 (λ z. h (k ∙ z))) (q ∙ ap (λ (x : ℕ). checked_kind sep x st n l) k))

-- ---- of any line

-- room for one row more of any kind that may come
pub room_for : (k : Kept) (ls a : List ℕ) → Ready k ls a → RoomFor k a
room_for k ls a y kind p q o f =
    omega (arith, sound-room (kept_as k ls a) y.sound kind p q o f, length-take-le k.used a y.inside, y.roomy)

module _ (sep n : ℕ) (l : List ℕ) (k : Kept) (ls a : List ℕ) where
  pub line-passed : is_passed sep l ≡ true → onward (kept_as k ls a) ≡ line_step sep (kept_as k ls a) n l
  unfolding line_step
  line-passed h = taken _ h refl

  module _ (h : is_passed sep l ≡ false) {c : Result ℕ TextFault} (q : c ≡ checked sep (counted_as k) n l) where
    -- the tests of a line ask for no more than the kind and the count
    as_kept : c ≡ checked sep (kept_as k ls a) n l
    unfolding checked checked_kind
    as_kept = q

    pub line-fault : {f : TextFault} → c ≡ Err f → stopped f ≡ line_step sep (kept_as k ls a) n l
    unfolding line_step
    line-fault e = left _ h (ap (λ (x : Result ℕ TextFault). step_by x (after_line sep (kept_as k ls a) l)) (sym e ∙ as_kept))

    pub fault_same : {f : TextFault} → c ≡ Err f → (a' : List ℕ) → Stored sep k.used l a a' c → length a' ≡ length a
    fault_same e a' w = subst (λ (x : Result ℕ TextFault). Stored sep k.used l a a' x) e w

    module _ {kind : ℕ} (e : c ≡ Ok kind) where
      row_line : (kind ≡ kind_in sep l) × RowLine sep (kept_as k ls a) l
      row_line = row-said sep (kept_as k ls a) n l (sym as_kept ∙ e)

      module _ (y : Ready k ls a) where
        -- what `take_row` asks
        pub row-known : (0 < kind) × (kind ≤ kinds) × (k.kind ≤ kind) × (count_of (counted_as k) kind < 32)
        row-known =
            let r = row_line.1 in
            let i = row_line.0 in (
              subst (λ (x : ℕ). 0 < x) (sym i) r.some,
              subst (λ (x : ℕ). x ≤ kinds) (sym i) r.known,
              subst (λ (x : ℕ). k.kind ≤ x) (sym i) r.order,
              subst (λ (x : ℕ). count_of (counted_as k) x < 32) (sym i) r.few,
            )

        pub row_room : k.used + numbers_of kind ≤ length a
        row_room = let w = row-known in room_for k ls a y kind w.0 w.1 w.2 w.3

        pub row_asks : ((0 < kind) × (kind ≤ length ls) × (get_or ls (kind - 1) 0 ≤ 65536)) × ((k.used ≤ 65536) × (count_of (counted_as k) kind < 32))
        row_asks =
            let w = row-known in
            let st = kept_as k ls a in
            let h₁ : kind ≤ length ls = omega (arith, w.1, y.sound.each) in
            let h₂ : get_or ls (kind - 1) 0 ≤ 65536 = omega (arith, length-fits st y.sound (kind - 1)) in
            let h₃ : k.used ≤ 65536 = omega (arith, sound-fits st y.sound, length-take-le k.used a y.inside) in
            ((w.0, h₁, h₂), (h₃, w.3))

        module _ (k' : Kept) (ls' a' : List ℕ)
            (p : k' ≡ record { kind = kind; count = suc (count_of (counted_as k) kind); used = k.used + numbers_of kind })
            (g : ls' ≡ sets ls (kind - 1) ((get_or ls (kind - 1) 0 + numbers_of kind) ∷ []))
            (w : Stored sep k.used l a a' c) where
          abbrev numbers : List ℕ
          numbers = numbers_said sep kind l

          many : length numbers ≡ numbers_of kind
          many = first-length sep kind l (numbers_of kind)

          stored : a' ≡ sets a k.used numbers
          stored = subst (λ (x : Result ℕ TextFault). Stored sep k.used l a a' x) e w

          abbrev after : Sofar
          after = with_row kind (kept_as k ls a) numbers

          kept-after : kept_as k' ls' a' ≡ after
          kept-after =
              ap (λ (x : Kept). kept_as x ls' a') p
              ∙ ap (λ (x : List ℕ). kept_as (record { kind = kind; count = suc (count_of (counted_as k) kind); used = k.used + numbers_of kind }) x a') g
              ∙ ap (λ (x : List ℕ). record { kind = kind; count = suc (count_of (counted_as k) kind); lengths = sets ls (kind - 1) ((get_or ls (kind - 1) 0 + numbers_of kind) ∷ []); area = x })
              (ap (take (k.used + numbers_of kind)) stored ∙ stored-behind a k.used (numbers_of kind) numbers many row_room)
              ∙ ap (λ (x : ℕ). record { kind = kind; count = suc (count_of (counted_as k) kind); lengths = sets ls (kind - 1) ((get_or ls (kind - 1) 0 + x) ∷ []); area = after.area }) (sym many)

          pub line_row : onward (kept_as k' ls' a') ≡ line_step sep (kept_as k ls a) n l
          unfolding line_step
          line_row =
              left _ h
              (ap onward (kept-after ∙ ap (λ (x : ℕ). with_row x (kept_as k ls a) (numbers_said sep x l)) row_line.0)
              ∙ ap (λ (x : Result ℕ TextFault). step_by x (after_line sep (kept_as k ls a) l)) (sym e ∙ as_kept))

          pub row_inside : k'.used ≤ length a'
          row_inside = omega (arith, ap (λ (x : Kept). x.used) p, ap length stored, length-sets a k.used numbers, row_room)

          pub row_same : (length ls' ≡ length ls) × (length a' ≡ length a)
          row_same = (ap length g ∙ length-sets ls (kind - 1) ((get_or ls (kind - 1) 0 + numbers_of kind) ∷ []), ap length stored ∙ length-sets a k.used numbers)
