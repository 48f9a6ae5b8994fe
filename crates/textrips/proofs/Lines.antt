-- The lines of some rows, read. Assumes nothing.
--     Back            what a row's line has to be, to be read as the row; one_row: then it is
--     rows-read       the lines of a kind's rows, and the state after them: their lengths, and their numbers
--     lists-read      the lines of all kinds
use Prim.Native.Nat.{ℕ, zero, suc, ◌+◌, ◌-◌, ◌*◌, ◌<◌, ◌≤◌}
use mathlib.Core.Path.{◌≡◌, refl, sym, ap, ap₂, subst, ◌∙◌}
use mathlib.Core.Bool.{true, false}
use mathlib.Core.List.{List, [], ◌∷◌, ◌++◌, flatten, map, append_assoc, append-nil}
use native.Mathlib.Nat.{add-zero, mul-suc, mul-zero}
use native.Mathlib.Omega.{arith}
use borrow.Author.Tests.{le-ltb, lt-leb, ne_eqb, eq-eqb}
use lib.Dec.{eqb}
use lib.ListN.{length, get_or, take, drop, replicate, length-append, length-drop}
use lib.Seq.{take-add, length-take-le, take_all, set_at, get_or_at}
use Rattle.std.specs.Prelude.{Ok}
use Rattle.form.specs.Layout.{numbers_of}
use Rattle.filing.specs.Lists.{Lists, rows_in, row_of}
use Rattle.cells.specs.Cells.{cell_at, found_in, same_word}
use Rattle.rowtext.specs.Said.{numbers_said, row_said}
use Rattle.heads.specs.Heads.{is_passed, edition_word}
use Rattle.texts.specs.Texts.{TextRead, rows, Sofar, kind_in, count_of, checked_kind, checked, with_row, after_line, rows_from}
use Rattle.unpacked.specs.Unpacked.{row_line, note_line, row_lines_to, kind_lines, lists_lines}

-- ---- a row

pub record Back (kind : ℕ) (r : List ℕ) : Type 0 where
  pub counts : is_passed 44 (row_line kind r) ≡ false
  pub no_head : same_word edition_word (cell_at 44 0 (row_line kind r)) ≡ false
  pub known : 0 < kind
  pub named : kind_in 44 (row_line kind r) ≡ kind
  pub fields : found_in 44 (row_line kind r) ≡ numbers_of kind
  pub whole : row_said 44 kind (row_line kind r) ≡ Ok tt
  pub numbers : numbers_said 44 kind (row_line kind r) ≡ r

-- a line that names a kind not below the one before, of which there are not yet 32 rows
kindly : (sep kind : ℕ) (st : Sofar) (n : ℕ) (l : List ℕ) → st.kind ≤ kind → count_of st kind < 32 → found_in sep l ≡ numbers_of kind
    → row_said sep kind l ≡ Ok tt → checked_kind sep kind st n l ≡ Ok kind
unfolding checked_kind
kindly sep kind st n l a b c d =
    rw (le-ltb kind st.kind a, lt-leb 32 (count_of st kind) b, eq-eqb (found_in sep l) (numbers_of kind) c, d)

checked_is : (sep kind : ℕ) (st : Sofar) (n : ℕ) (l : List ℕ) → same_word edition_word (cell_at sep 0 l) ≡ false → kind_in sep l ≡ kind → 0 < kind
    → checked_kind sep kind st n l ≡ Ok kind → checked sep st n l ≡ Ok kind
unfolding checked
checked_is sep kind st n l a e h c =
    let z : eqb kind 0 ≡ false = ne_eqb kind 0 (λ q. absurd (omega arith)) in
    rw (a, e, z) c

-- a line that counts and is a row
step : (e sep n : ℕ) (st : Sofar) (l : List ℕ) (ls : List (List ℕ)) (kind : ℕ) → is_passed sep l ≡ false → checked sep st (suc n) l ≡ Ok kind
    → rows_from e sep n st (l ∷ ls) ≡ rows_from e sep (suc n) (after_line sep st l) ls
unfolding rows_from
step e sep n st l ls kind p c = rw (p, c)

passed : (e sep n : ℕ) (st : Sofar) (l : List ℕ) (ls : List (List ℕ)) → is_passed sep l ≡ true → rows_from e sep n st (l ∷ ls) ≡ rows_from e sep (suc n) st ls
unfolding rows_from
passed e sep n st l ls p = rw p

after : (sep kind : ℕ) (st : Sofar) (l r : List ℕ) → kind_in sep l ≡ kind → numbers_said sep kind l ≡ r → after_line sep st l ≡ with_row kind st r
after sep kind st l r e m = ap (λ (k : ℕ). with_row k st (numbers_said sep k l)) e ∙ ap (with_row kind st) m

one_row : (e kind : ℕ) (r : List ℕ) (b : Back kind r) (n : ℕ) (st : Sofar) (ls : List (List ℕ)) → st.kind ≤ kind → count_of st kind < 32
    → rows_from e 44 n st (row_line kind r ∷ ls) ≡ rows_from e 44 (suc n) (with_row kind st r) ls
one_row e kind r b n st ls low few =
    let l = row_line kind r in
    let c = checked_is 44 kind st (suc n) l b.no_head b.named b.known (kindly 44 kind st (suc n) l low few b.fields b.whole) in
    step e 44 n st l ls kind b.counts c ∙ ap (λ (s : Sofar). rows_from e 44 (suc n) s ls) (after 44 kind st l r b.named b.numbers)

-- ---- the rows of a kind

-- the state after the first m rows of a list
unfoldable pub with_rows : ℕ → Sofar → List ℕ → ℕ → Sofar
with_rows kind st r zero = st
with_rows kind st r (suc m) = with_row kind (with_rows kind st r m) (row_of kind r m)

module _ (kind : ℕ) (st : Sofar) (r : List ℕ) (above : st.kind < kind) where
  rows-kind : (m : ℕ) → (with_rows kind st r m).kind ≤ kind
  unfolding with_rows
  rows-kind zero = omega arith
  rows-kind (suc m) = omega arith

  rows-count : (m : ℕ) → count_of (with_rows kind st r m) kind ≡ m
  unfolding with_rows
  rows-count zero = let z : eqb kind st.kind ≡ false = ne_eqb kind st.kind (λ q. absurd (omega arith)) in rw z
  rows-count (suc m) = rw (eq-eqb kind kind refl) (ap suc (rows-count m))

  -- whatever the lines behind are read as, the lines of the rows before them are too
  rows-read : (e m : ℕ) → m ≤ 32 → ((i : ℕ) → i < m → Back kind (row_of kind r i)) → (ls : List (List ℕ)) (result : TextRead)
      → ((n : ℕ) → rows_from e 44 n (with_rows kind st r m) ls ≡ result) → (n : ℕ) → rows_from e 44 n st (row_lines_to kind r m ++ ls) ≡ result
  unfolding with_rows row_lines_to
  rows-read e zero few back ls result on n = on n
  rows-read e (suc m) few back ls result on n =
      let x = row_line kind (row_of kind r m) in
      ap (rows_from e 44 n st) (append_assoc (row_lines_to kind r m) (x ∷ []) ls)
      ∙ rows-read e m (omega arith) (λ i h. back i (omega arith)) (x ∷ ls) result
      (λ k. one_row e kind (row_of kind r m) (back m (omega arith)) k (with_rows kind st r m) ls (rows-kind m) (omega (arith, rows-count m)) ∙ on (suc k)) n

  -- the numbers so far
  rows-area : (m : ℕ) → (with_rows kind st r m).area ≡ st.area ++ take (numbers_of kind * m) r
  unfolding with_rows
  rows-area zero = rw mul-zero (sym (append-nil st.area))
  rows-area (suc m) =
      ap (λ (a : List ℕ). a ++ row_of kind r m) (rows-area m)
      ∙ append_assoc st.area (take (numbers_of kind * m) r) (row_of kind r m)
      ∙ ap (λ (t : List ℕ). st.area ++ t) (sym (take-add (numbers_of kind * m) (numbers_of kind) r))
      ∙ ap (λ (t : ℕ). st.area ++ take t r) (sym (mul-suc (numbers_of kind) m))

  -- and the kind's length, at its place
  rows-lengths : (pre post : List ℕ) → length pre ≡ kind - 1 → st.lengths ≡ pre ++ 0 ∷ post → (m : ℕ) → numbers_of kind * m ≤ length r
      → (with_rows kind st r m).lengths ≡ pre ++ (numbers_of kind * m) ∷ post
  unfolding with_rows
  rows-lengths pre post at e zero h = rw mul-zero e
  rows-lengths pre post at e (suc m) h =
      let w = mul-suc (numbers_of kind) m in
      let l : length (row_of kind r m) ≡ numbers_of kind = length-take-le (numbers_of kind) (drop (numbers_of kind * m) r) (rw length-drop (omega (arith, w))) in
      let before = rows-lengths pre post at e m (omega (arith, w)) in
      rw (before, get_or_at pre (numbers_of kind * m) post 0 (kind - 1) at, l, set_at pre (numbers_of kind * m) post (numbers_of kind * m + numbers_of kind) (kind - 1) at, w)
      refl

-- a list that reads back: whole rows, at most 32, and each of them does
pub record Readable (kind : ℕ) (r : List ℕ) : Type 0 where
  pub all : numbers_of kind * rows_in kind (length r) ≡ length r
  pub few : rows_in kind (length r) ≤ 32
  pub noted : is_passed 44 (note_line kind) ≡ true
  pub each : (i : ℕ) → i < rows_in kind (length r) → Back kind (row_of kind r i)

-- a kind's lines: none, or its note and its rows
module _ (e kind : ℕ) (st : Sofar) (r : List ℕ) (above : st.kind < kind) (h : Readable kind r) (ls : List (List ℕ)) (result : TextRead) where
  by_count : (m : ℕ) → rows_in kind (length r) ≡ m → ((n : ℕ) → rows_from e 44 n (with_rows kind st r m) ls ≡ result) → (n : ℕ)
      → rows_from e 44 n st (kind_lines kind r ++ ls) ≡ result
  unfolding kind_lines with_rows
  by_count zero q k n = rw q (k n)
  by_count (suc m) q k n =
      let z : eqb (suc m) 0 ≡ false = ne_eqb (suc m) 0 (λ x. absurd (omega arith)) in
      rw (q, z)
      (passed e 44 n st (note_line kind) (row_lines_to kind r (suc m) ++ ls) h.noted
      ∙ rows-read kind st r above e (suc m) (omega (arith, h.few)) (λ i a. h.each i (omega arith)) ls result k (suc n))

  kind-read : ((n : ℕ) → rows_from e 44 n (with_rows kind st r (rows_in kind (length r))) ls ≡ result) → (n : ℕ)
      → rows_from e 44 n st (kind_lines kind r ++ ls) ≡ result
  kind-read on n = by_count (rows_in kind (length r)) refl on n

-- ---- all kinds

-- something that is so of each list, by its kind, the first being kind k
abbrev pub Each : (ℕ → List ℕ → Type 0) → ℕ → Lists → Type 0
Each P k [] = Unit {0}
Each P k (r ∷ l) = P k r × Each P (suc k) l

pub each_of : (P : ℕ → List ℕ → Type 0) (l : Lists) (k : ℕ) → ((j : ℕ) → j < length l → P (k + j) (get_or l j [])) → Each P k l
each_of P [] k h = tt
each_of P (r ∷ l) k h = (
  subst (λ (i : ℕ). P i r) (add-zero k) (h 0 (omega arith)),
  each_of P l (suc k) (λ j g. let e : k + suc j ≡ suc k + j = omega arith in subst (λ (i : ℕ). P i (get_or l j [])) e (h (suc j) (omega arith))),
)

pub lists-read : (e k : ℕ) (l : Lists) → Each Readable k l → (st : Sofar) (pre : List ℕ) → st.kind < k → length pre ≡ k - 1
    → st.lengths ≡ pre ++ replicate (length l) 0 → (n : ℕ)
    → rows_from e 44 n st (lists_lines k l) ≡ rows e (pre ++ map length l) (st.area ++ flatten l)
unfolding lists_lines rows_from flatten
lists-read e k [] h st pre above at q n = ap₂ (rows e) q (sym (append-nil st.area))
lists-read e k (r ∷ l) h st pre above at q n =
    let m = rows_in k (length r) in
    let s = with_rows k st r m in
    let ls : s.lengths ≡ pre ++ (numbers_of k * m) ∷ replicate (length l) 0 = rows-lengths k st r above pre (replicate (length l) 0) at q m (omega (arith, h.0.all)) in
    let ar : s.area ≡ st.area ++ r = rows-area k st r above m ∙ ap (λ (t : List ℕ). st.area ++ t) (take_all (numbers_of k * m) r (omega (arith, h.0.all))) in
    let longer : length (pre ++ length r ∷ []) ≡ suc k - 1 = length-append pre (length r ∷ []) ∙ omega (arith, at) in
    kind-read e k st r above h.0 (lists_lines (suc k) l) (rows e (pre ++ map length (r ∷ l)) (st.area ++ (r ++ flatten l)))
    (λ i.
    lists-read e (suc k) l h.1 s (pre ++ length r ∷ []) (omega (arith, rows-kind k st r above m)) longer
    (ls ∙ ap (λ (x : ℕ). pre ++ x ∷ replicate (length l) 0) h.0.all ∙ sym (append_assoc pre (length r ∷ []) (replicate (length l) 0))) i
    ∙ ap₂ (rows e) (append_assoc pre (length r ∷ []) (map length l)) (ap (λ (a : List ℕ). a ++ flatten l) ar ∙ append_assoc st.area r (flatten l))) n
