-- Kind after kind. Assumes nothing.
--     lines_none, lines_more    the lines of the first kinds of a return, one more
--     two_numbers               a row has two numbers or more
--     room_next, all_room       the room of the kinds, and of the whole text
--     rows-room, rows_fit, rows-small      that of a kind's rows, and how many numbers they are
--     stored-rows, front-rows, front-count    rows decoded to the front of room, and taken from there
use Prim.Native.Nat.{ℕ, zero, suc, ◌+◌, ◌-◌, ◌*◌, ◌/◌, ◌<◌, ◌≤◌}
use mathlib.Core.Path.{◌≡◌, refl, sym, ap, ◌∙◌}
use mathlib.Core.Bool.{not}
use mathlib.Core.List.{List, [], ◌++◌, append-nil, append_assoc}
use native.Mathlib.Nat.{add-zero, mul-div-le, mul-le-mul, mul-le-mul_left, mul-div_cancel_left, mul-suc}
use native.Mathlib.Numerals.{add-one}
use native.Mathlib.Omega.{arith}
use borrow.Author.Tests.{ltb-true, not-false}
use lib.Dec.{ltb, lit≤}
use lib.ListN.{length, take, drop}
use lib.Seq.{sets}
use Rattle.form.specs.First.{any}
use Rattle.form.specs.Layout.{kinds, numbers_of}
use Rattle.form.proofs.Search.{any_each}
use Rattle.form.proofs.Fields.{few_numbers}
use Rattle.filing.specs.Lists.{rows_in}
use Rattle.filing.specs.Written.{in_turn}
use Rattle.filing.specs.Tables.{row_on}
use Rattle.filing.proofs.Stores.{sets-read, length_turns}
use Rattle.filing.proofs.Parts.{length-row_on}
use Rattle.rows.specs.Reading.{rows_of, lists_from}
use Rattle.cells.specs.Lines.{ended}
use Rattle.unpacked.specs.Unpacked.{kind_lines, lists_lines}
use Rattle.unpacked.specs.Rooms.{row_room, kind_room, kinds_room, edition_room, unpack_room}
use Rattle.unpacked.proofs.Lines.{ended_append}

next-lines : (s : List ℕ) (n j : ℕ) → lists_lines j (lists_from s j (suc n)) ≡ lists_lines j (lists_from s j n) ++ kind_lines (j + n) (rows_of s (j + n))
unfolding lists_lines lists_from
next-lines s zero j = append-nil (kind_lines j (rows_of s j)) ∙ ap (λ (k : ℕ). kind_lines k (rows_of s k)) (sym (add-zero j))
next-lines s (suc n) j =
    let e : suc j + n ≡ j + suc n = omega arith in
    let here = kind_lines j (rows_of s j) in
    ap (λ (x : List (List ℕ)). here ++ x) (next-lines s n (suc j))
    ∙ sym (append_assoc here (lists_lines (suc j) (lists_from s (suc j) n)) (kind_lines (suc j + n) (rows_of s (suc j + n))))
    ∙ ap (λ (k : ℕ). (here ++ lists_lines (suc j) (lists_from s (suc j) n)) ++ kind_lines k (rows_of s k)) e

pub lines_none : (s : List ℕ) → ended (lists_lines 1 (lists_from s 1 0)) ≡ []
unfolding lists_lines lists_from ended
lines_none s = refl

pub lines_more : (s : List ℕ) (k : ℕ)
    → ended (lists_lines 1 (lists_from s 1 k)) ++ ended (kind_lines (k + 1) (rows_of s (k + 1))) ≡ ended (lists_lines 1 (lists_from s 1 (k + 1)))
lines_more s k =
    let e : 1 + k ≡ k + 1 = omega arith in
    sym (ended_append (lists_lines 1 (lists_from s 1 k)) (kind_lines (k + 1) (rows_of s (k + 1))))
    ∙ ap (λ (j : ℕ). ended (lists_lines 1 (lists_from s 1 k) ++ kind_lines j (rows_of s j))) (sym e)
    ∙ ap ended (sym (next-lines s k 1))
    ∙ ap (λ (j : ℕ). ended (lists_lines 1 (lists_from s 1 j))) (sym (add-one k))

pub two_numbers : (kind : ℕ) → 0 < kind → kind ≤ kinds → 1 < numbers_of kind
unfolding any kinds
two_numbers zero lo hi = absurd (omega arith)
two_numbers (suc k) lo hi = ltb-true 1 (numbers_of (suc k)) (not-false _ (any_each (λ k. not (ltb 1 (numbers_of (suc k)))) kinds refl k hi))

-- ---- rooms

pub room_none : kinds_room 0 ≡ 0
unfolding kinds_room
room_none = refl

pub room-more : (k : ℕ) → kinds_room (k + 1) ≡ kinds_room k + kind_room (k + 1)
unfolding kinds_room
room-more k = rw (add-one k)

rooms_up : (j d : ℕ) → kinds_room j ≤ kinds_room (j + d)
rooms_up j zero = rw (add-zero j) (omega arith)
rooms_up j (suc d) =
    let e : j + suc d ≡ j + d + 1 = omega arith in
    rw e (omega (arith, rooms_up j d, room-more (j + d)))

pub room_next : (k : ℕ) → k < kinds → kinds_room k + kind_room (k + 1) ≤ kinds_room kinds
room_next k h = let e : k + 1 + (kinds - (k + 1)) ≡ kinds = omega arith in omega (arith, room-more k, rw e at (rooms_up (k + 1) (kinds - (k + 1))))

pub all_room : edition_room + kinds_room kinds ≤ unpack_room
unfolding kinds kinds_room row_room
all_room = lit≤ tt

-- the rows of a kind
pub rows-room : (kind n : ℕ) → n ≤ 32 → row_room kind * n ≤ row_room kind * 32
rows-room kind n h = mul-le-mul_left {m = n} {n = 32} (row_room kind) h

pub rows_fit : (kind n m : ℕ) → n ≡ rows_in kind m → numbers_of kind * n ≤ m
rows_fit kind n m e = rw e (mul-div-le m (numbers_of kind))

pub room_step : (w i : ℕ) → w * (i + 1) ≡ w * i + w
room_step w i = rw (add-one i) (omega (arith, mul-suc w i))

-- at most 32 rows of at most 16 numbers
pub rows-small : (kind n m : ℕ) → m ≡ numbers_of kind → n ≤ 32 → m * n ≤ 512
rows-small kind n m e h = rw e (mul-le-mul (few_numbers kind) h)

-- rows decoded to the front of room, and taken from there
module _ (kind : ℕ) (s : List ℕ) (place n : ℕ) where
  rows_long : length (in_turn (row_on kind s) place n) ≡ numbers_of kind * n
  rows_long = length_turns (row_on kind s) (numbers_of kind) (length-row_on kind s) place n

  pub stored-rows : (d d' : List ℕ) (m : ℕ) → m ≡ numbers_of kind → d' ≡ sets d 0 (in_turn (row_on kind s) place n) → m * n ≤ length d
      → take (m * n) d' ≡ in_turn (row_on kind s) place n
  stored-rows d d' m e w h =
      ap (take (m * n)) w ∙ sets-read d 0 (in_turn (row_on kind s) place n) (rows_long ∙ ap (λ (k : ℕ). k * n) (sym e)) (omega arith)

  module _ (d' : List ℕ) (r : ℕ) (w : take r d' ≡ in_turn (row_on kind s) place n) where
    pub front-rows : take (r - 0) (drop 0 d') ≡ in_turn (row_on kind s) place n
    front-rows = let z : r - 0 ≡ r = omega arith in rw z w

    pub front-count : 0 < numbers_of kind → n ≡ rows_in kind (length (take (r - 0) (drop 0 d')))
    front-count h =
        sym (mul-div_cancel_left n h) ∙ ap (λ (k : ℕ). k / numbers_of kind) (sym rows_long ∙ ap length (sym front-rows))
