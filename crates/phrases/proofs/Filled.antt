-- Lines made by filling values in between names. Assumes nothing.
--     filled-flat, filled-text  names without a space, filled in with their values, are their lines: as `line` has them, and as `lines_text` has them
--     Left                      while k bytes of the names and i values are written: what is written, with what is left, is the whole text
--     none_written, letter_written, value_written, all_written   the turns of a loop that does so; value_there, letter_fits, value-fits: what a turn needs
use Prim.Native.Nat.{ℕ, ◌+◌, ◌<◌, ◌≤◌}
use mathlib.Core.Path.{◌≡◌, refl, sym, ap, subst, ◌∙◌}
use mathlib.Core.Bool.{Bool, true, false, cond}
use mathlib.Core.List.{List, [], ◌∷◌, ◌++◌, append-nil, append_assoc, map, flat_map}
use native.Mathlib.Omega.{arith}
use native.Mathlib.Numerals.{add-one}
use native.Mathlib.Nat.{add-zero, zero-add}
use borrow.Author.Tests.{eq-eqb, ne_eqb}
use lib.Dec.{eqb}
use lib.IntN.{ℤ, pos}
use lib.ListN.{length, drop, get_or, length-append}
use lib.Seq.{drop-cons, drop-drop, drop-length, get_or-drop, length-sets}
use Rattle.decimal.specs.Digits.{marked, WrittenAt}
use Rattle.decimal.proofs.DigitLaws.{written-more}
use Rattle.phrases.specs.Lines.{Line, ended, line, lines_text, spaces, filled_in}

pub spaces_append : (s t : List ℕ) → spaces (s ++ t) ≡ spaces s + spaces t
unfolding spaces
spaces_append [] t = omega arith
spaces_append (b ∷ s) t = omega (arith, spaces_append s t)

-- a name has no space, so the first one is that behind it
filled-name : (name t : List ℕ) (v : ℤ) (vs : List ℤ) → spaces name ≡ 0 → filled_in (name ++ 32 ∷ t) (v ∷ vs) ≡ name ++ 32 ∷ (marked v ++ 10 ∷ filled_in t vs)
unfolding filled_in spaces
filled-name [] t v vs h = refl
filled-name (b ∷ name) t v vs h = by (eqb b 32) refl (λ g. filled-name name t v vs g)
  where
    by : (q : Bool) → eqb b 32 ≡ q → (spaces name ≡ 0 → filled_in (name ++ 32 ∷ t) (v ∷ vs) ≡ name ++ 32 ∷ (marked v ++ 10 ∷ filled_in t vs))
        → b ∷ cond (eqb b 32) (marked v ++ 10 ∷ filled_in (name ++ 32 ∷ t) vs) (filled_in (name ++ 32 ∷ t) (v ∷ vs)) ≡ b ∷ (name ++ 32 ∷ (marked v ++ 10 ∷ filled_in t vs))
    by true e more = let g = rw e at h in absurd (omega arith)
    by false e more =
        let g = rw e at h in
        rw e (ap (λ (x : List ℕ). b ∷ x) (more (omega arith)))

-- for anything that has a name and a value
module _ {A : Type 0} (name : A → List ℕ) (number : A → ℤ) where
  abbrev line_in : A → Line
  line_in x = record { name = name x; value = marked (number x) }

  pub filled-text : (xs : List A) → spaces (flat_map name xs) ≡ 0 → filled_in (flat_map (λ (x : A). name x ++ 32 ∷ []) xs) (map number xs) ≡ lines_text (map line_in xs)
  unfolding filled_in lines_text flat_map
  filled-text [] h = refl
  filled-text (x ∷ xs) h =
      let n = spaces_append (name x) (flat_map name xs) in
      let a : spaces (name x) ≡ 0 = omega arith in
      let b : spaces (flat_map name xs) ≡ 0 = omega arith in
      rw (append_assoc, filled-name (name x) (flat_map (λ (y : A). name y ++ 32 ∷ []) xs) (number x) (map number xs) a, filled-text xs b)

  flat-text : (xs : List A) → lines_text (map line_in xs) ≡ flat_map (λ (x : A). line (name x) (number x)) xs
  unfolding lines_text flat_map
  flat-text [] = refl
  flat-text (x ∷ xs) = rw (append_assoc, append_assoc, flat-text xs)

  pub filled-flat : (xs : List A) → spaces (flat_map name xs) ≡ 0
      → filled_in (flat_map (λ (x : A). name x ++ 32 ∷ []) xs) (map number xs) ≡ flat_map (λ (x : A). line (name x) (number x)) xs
  filled-flat xs h = filled-text xs h ∙ flat-text xs

pub record Left (vs : List ℤ) (names room : List ℕ) (from k i at : ℕ) (out : List ℕ) : Type 0 where
  pub done : List ℕ
  pub so_far : WrittenAt done room out from at
  pub rest : done ++ filled_in (drop k names) (drop i vs) ≡ filled_in names vs
  pub count : i + spaces (drop k names) ≡ spaces names

pub as_left : (vs : List ℤ) (names room : List ℕ) (from k : ℕ) {i j at next : ℕ} {out out' : List ℕ} → out' ≡ out → j ≡ i → next ≡ at
    → Left vs names room from k i at out → Left vs names room from k j next out'
as_left vs names room from k p q r l = rw (p, q, r) l

pub none_written : (vs : List ℤ) (names room : List ℕ) (from : ℕ) → Left vs names room from 0 0 from room
none_written vs names room from = record {
  done = [];
  so_far = record { room = refl; place = sym (add-zero from) };
  rest = refl;
  count = zero-add (spaces names);
}

pub all_written : (vs : List ℤ) (names room : List ℕ) (from k i at : ℕ) (out : List ℕ) → k ≡ length names → Left vs names room from k i at out → WrittenAt (filled_in names vs) room out from at
unfolding filled_in
all_written vs names room from k i at out e l =
    let n : drop k names ≡ [] = ap (λ (j : ℕ). drop j names) e ∙ drop-length names in
    let d : l.done ≡ filled_in names vs = sym (append-nil l.done) ∙ ap (λ (x : List ℕ). l.done ++ filled_in x (drop i vs)) (sym n) ∙ l.rest in
    subst (λ (x : List ℕ). WrittenAt x room out from at) d l.so_far

-- what comes next has room where the whole text has
room_for : (vs : List ℤ) (names room : List ℕ) (from k i at : ℕ) (out next more : List ℕ) → Left vs names room from k i at out
    → filled_in (drop k names) (drop i vs) ≡ next ++ more → from + length (filled_in names vs) ≤ length room → at + length next ≤ length out
room_for vs names room from k i at out next more l e h =
    omega (arith, l.so_far.place, ap length l.so_far.room, length-sets room from l.done, ap length l.rest, length-append l.done (filled_in (drop k names) (drop i vs)), ap length e, length-append next more)

module _ (vs : List ℤ) (names room : List ℕ) (from k i at : ℕ) (out : List ℕ) (b : ℕ) (h : k < length names) (e : b ≡ get_or names k 0) where
  opened : drop k names ≡ b ∷ drop (k + 1) names
  opened = drop-cons names k 0 h ∙ cc (e, add-one k)

  abbrev value_here : List ℕ
  value_here = ended (get_or vs i (pos 0))

  -- the next byte of the names is a letter, or a space with a value behind it
  letter : (b ≡ 32 → ⊥) → (ws : List ℤ) → filled_in (drop k names) ws ≡ (b ∷ []) ++ filled_in (drop (k + 1) names) ws
  unfolding filled_in
  letter n ws = ap (λ (x : List ℕ). filled_in x ws) opened ∙ rw (ne_eqb b 32 n)

  space : b ≡ 32 → filled_in (drop k names) (drop i vs) ≡ (b ∷ value_here) ++ filled_in (drop (k + 1) names) (drop (i + 1) vs)
  unfolding filled_in
  space n = ap (λ (x : List ℕ). filled_in x (drop i vs)) opened ∙ rw (eq-eqb b 32 n, get_or-drop, add-zero, drop-drop, append_assoc)

  counts : spaces (drop k names) ≡ cond (eqb b 32) 1 0 + spaces (drop (k + 1) names)
  unfolding spaces
  counts = ap spaces opened

  module _ (l : Left vs names room from k i at out) where
    pub letter_written : {out' : List ℕ} {next : ℕ} → (b ≡ 32 → ⊥) → WrittenAt (b ∷ []) out out' at next → Left vs names room from (k + 1) i next out'
    letter_written n w = record {
      done = l.done ++ b ∷ [];
      so_far = written-more l.so_far w;
      rest = append_assoc l.done (b ∷ []) _ ∙ ap (λ (x : List ℕ). l.done ++ x) (sym (letter n (drop i vs))) ∙ l.rest;
      count = omega (arith, rw (ne_eqb b 32 n) at counts, l.count);
    }

    pub value_written : {mid out' : List ℕ} {m next : ℕ} (z : ℤ) → b ≡ 32 → z ≡ get_or vs i (pos 0) → WrittenAt (b ∷ []) out mid at m → WrittenAt (ended z) mid out' m next
        → Left vs names room from (k + 1) (i + 1) next out'
    value_written {mid} {out'} {m} {next} z n q w v = record {
      done = l.done ++ (b ∷ value_here);
      so_far = written-more l.so_far (written-more w (subst (λ (y : ℤ). WrittenAt (ended y) mid out' m next) q v));
      rest = append_assoc l.done (b ∷ value_here) _ ∙ ap (λ (x : List ℕ). l.done ++ x) (sym (space n)) ∙ l.rest;
      count = omega (arith, rw (eq-eqb b 32 n) at counts, l.count);
    }

    -- a space is followed by a value that is there
    pub value_there : b ≡ 32 → i < spaces names
    value_there n = omega (arith, rw (eq-eqb b 32 n) at counts, l.count)

    pub letter_fits : from + length (filled_in names vs) ≤ length room → at < length out
    unfolding filled_in
    letter_fits f = omega (arith, room_for vs names room from k i at out (b ∷ []) _ l (ap (λ (x : List ℕ). filled_in x (drop i vs)) opened) f)

    pub value-fits : b ≡ 32 → from + length (filled_in names vs) ≤ length room → at + 1 + length value_here ≤ length out
    value-fits n f = omega (arith, room_for vs names room from k i at out (b ∷ value_here) _ l (space n) f)
