-- How long the text of rows is: the room that is named is enough for the rows of every return, and no text of rows that can be written is too long to be packed.
-- Assumes nothing.
--     text-room       line by line, as `unpack_room` counts them
use Prim.Native.Nat.{ℕ, zero, suc, ◌+◌, ◌*◌, ◌<◌, ◌≤◌}
use mathlib.Core.Path.{◌≡◌, ap, ◌∙◌}
use mathlib.Core.Bool.{Bool, true, false, cond}
use mathlib.Core.List.{List, [], ◌∷◌, ◌++◌}
use native.Mathlib.Nat.{mul-suc, mul-zero, mul-le-mul_left}
use native.Mathlib.Omega.{arith}
use lib.Dec.{eqb, lit≤}
use lib.ListN.{length, get_or, length-append}
use Rattle.form.specs.Layout.{kinds, numbers_of}
use Rattle.form.specs.Records.{unit_code}
use Rattle.filing.specs.Lists.{Lists, rows_in, row_of}
use Rattle.decimal.specs.Digits.{decimal}
use Rattle.decimal.proofs.DigitLaws.{decimal-length}
use Rattle.phrases.specs.Ascii.{codes}
use Rattle.cells.specs.Lines.{ended}
use Rattle.cells.specs.Cells.{joined}
use Rattle.numerals.specs.Written.{printed}
use Rattle.naming.specs.Names.{kind_name}
use Rattle.columns.specs.Columns.{decimals_of, is_unit}
use Rattle.columns.proofs.ColumnLaws.{few_decimals}
use Rattle.unpacked.specs.Unpacked.{unit_word, field_text, field_texts, row_line, heading, headings, note_line, row_lines_to, kind_lines, lists_lines, edition_line, lists_text}
use Rattle.unpacked.specs.Rooms.{row_room, kind_room, kinds_room, unpack_room}
use Rattle.unpacked.proofs.Numbers.{printed-short}
use Rattle.unpacked.proofs.Lines.{ended_append}
use Rattle.unpacked.proofs.InTurn.{all_room}
use Rattle.textrips.proofs.Lines.{Each}

-- ---- a field, and a row's line

unit-short : (code : ℕ) → length (unit_word code) ≤ 11
unfolding unit_word
unit-short code = by (eqb code 1)
  where
    by : (t : Bool) → length (cond t (codes "trees") (codes "land")) ≤ 11
    by true = lit≤ tt
    by false = lit≤ tt

module _ (kind : ℕ) (r : List ℕ) (few : (i : ℕ) → get_or r i 0 ≤ 4294967295) where
  field-short : (i : ℕ) → length (field_text kind r i) ≤ 11
  unfolding field_text
  field-short i = by (is_unit kind i)
    where
      by : (t : Bool) → length (cond t (unit_word (get_or r i 0)) (printed (decimals_of kind (unit_code r) i) (get_or r i 0))) ≤ 11
      by true = unit-short (get_or r i 0)
      by false = printed-short (decimals_of kind (unit_code r) i) (get_or r i 0) (few_decimals kind (unit_code r) i) (let h = few i in omega arith)

  -- each field and the comma before it, behind any text
  joined_snoc : (f g : List ℕ) (fs : List (List ℕ)) → length (joined 44 (f ∷ (fs ++ g ∷ []))) ≡ length (joined 44 (f ∷ fs)) + suc (length g)
  unfolding joined
  joined_snoc f g [] = length-append f (44 ∷ g)
  joined_snoc f g (x ∷ fs) =
      omega (arith, length-append f (44 ∷ joined 44 (x ∷ (fs ++ g ∷ []))), length-append f (44 ∷ joined 44 (x ∷ fs)), joined_snoc x g fs)

  fields-short : (name : List ℕ) (n : ℕ) → length (joined 44 (name ∷ field_texts kind r n)) ≤ length name + 12 * n
  unfolding field_texts joined
  fields-short name zero = omega arith
  fields-short name (suc n) = omega (arith, joined_snoc name (field_text kind r n) (field_texts kind r n), fields-short name n, field-short n)

-- computed, kind by kind: the names and the notes
record Brief (kind : ℕ) : Type 0 where
  name : length (kind_name kind) ≤ 10
  note : length (note_line kind) < 300

brief : (kind : ℕ) → 0 < kind → kind ≤ kinds → Brief kind
unfolding kinds note_line headings heading joined
brief zero h l = absurd (omega arith)
brief (suc zero) h l = record { name = lit≤ tt; note = lit≤ tt }
brief (suc (suc zero)) h l = record { name = lit≤ tt; note = lit≤ tt }
brief (suc (suc (suc zero))) h l = record { name = lit≤ tt; note = lit≤ tt }
brief (suc (suc (suc (suc zero)))) h l = record { name = lit≤ tt; note = lit≤ tt }
brief (suc (suc (suc (suc (suc zero))))) h l = record { name = lit≤ tt; note = lit≤ tt }
brief (suc (suc (suc (suc (suc (suc zero)))))) h l = record { name = lit≤ tt; note = lit≤ tt }
brief (suc (suc (suc (suc (suc (suc (suc zero))))))) h l = record { name = lit≤ tt; note = lit≤ tt }
brief (suc (suc (suc (suc (suc (suc (suc (suc zero)))))))) h l = record { name = lit≤ tt; note = lit≤ tt }
brief (suc (suc (suc (suc (suc (suc (suc (suc (suc k))))))))) h l = absurd (omega arith)

-- with its line feed
row-short : (kind : ℕ) (r : List ℕ) → 0 < kind → kind ≤ kinds → ((i : ℕ) → get_or r i 0 ≤ 4294967295) → length (row_line kind r) + 1 ≤ row_room kind
unfolding row_room
row-short kind r low high few =
    omega (arith, fields-short kind r few (kind_name kind) (numbers_of kind), (brief kind low high).name)

-- ---- all lines

ended-both : (xs ys : List (List ℕ)) → length (ended (xs ++ ys)) ≡ length (ended xs) + length (ended ys)
ended-both xs ys = ap length (ended_append xs ys) ∙ length-append (ended xs) (ended ys)

-- a list whose numbers fit, of at most 32 rows
pub record Fitting (kind : ℕ) (r : List ℕ) : Type 0 where
  pub few : rows_in kind (length r) ≤ 32
  pub each : (i : ℕ) → i < rows_in kind (length r) → (j : ℕ) → get_or (row_of kind r i) j 0 ≤ 4294967295

module _ (kind : ℕ) (r : List ℕ) (low : 0 < kind) (high : kind ≤ kinds) (f : Fitting kind r) where
  rows_short : (m : ℕ) → m ≤ rows_in kind (length r) → length (ended (row_lines_to kind r m)) ≤ row_room kind * m
  unfolding row_lines_to ended
  rows_short zero h = rw mul-zero (omega arith)
  rows_short (suc m) h =
      let l = row_line kind (row_of kind r m) in
      let b = ended-both (row_lines_to kind r m) (l ∷ []) in
      let q = row-short kind (row_of kind r m) low high (f.each m (omega arith)) in
      omega (arith, b, length-append l (10 ∷ []), rows_short m (omega arith), q, mul-suc (row_room kind) m)

  kind-short : length (ended (kind_lines kind r)) ≤ kind_room kind
  unfolding kind_lines ended
  kind-short = by (eqb (rows_in kind (length r)) 0)
    where
      by : (t : Bool) → length (ended (cond t [] (note_line kind ∷ row_lines_to kind r (rows_in kind (length r))))) ≤ kind_room kind
      by true = omega arith
      by false =
          let m = rows_in kind (length r) in
          let w = mul-le-mul_left {m = m} {n = 32} (row_room kind) f.few in
          omega (arith, length-append (note_line kind) (10 ∷ ended (row_lines_to kind r m)), rows_short m (omega arith), (brief kind low high).note, w)

lists-short : (k : ℕ) (l : Lists) → k + length l ≤ kinds → Each Fitting (suc k) l → kinds_room k + length (ended (lists_lines (suc k) l)) ≤ kinds_room (k + length l)
unfolding lists_lines ended kinds_room
lists-short k [] high f = let e : k + 0 ≡ k = omega arith in rw e (omega arith)
lists-short k (r ∷ l) high f =
    let e : k + suc (length l) ≡ suc k + length l = omega arith in
    let more = lists-short (suc k) l (omega arith) f.1 in
    rw e (omega (arith, ended-both (kind_lines (suc k) r) (lists_lines (suc (suc k)) l), kind-short (suc k) r (omega arith) (omega arith) f.0, more))

pub text-room : (e : ℕ) (l : Lists) → e ≤ 4294967295 → length l ≡ kinds → Each Fitting 1 l → length (lists_text e l) ≤ unpack_room
unfolding lists_text ended kinds_room
text-room e l h long f =
    let lines = lists-short 0 l (omega (arith, long)) f in
    let q : 0 + length l ≡ kinds = omega (arith, long) in
    let all : kinds_room 0 + length (ended (lists_lines 1 l)) ≤ kinds_room kinds = rw q at lines in
    omega (arith, length-append (edition_line e) (10 ∷ ended (lists_lines 1 l)), length-append (codes "edition,") (decimal e), decimal-length 9 e (omega arith), all, all_room)
