-- Rows as text. "Every text of every length gets its return or one refusal; one answer; lent memory unchanged on a refusal." "The text that `unpack` makes of an
-- accepted return packs to the same bytes; a text that packs, unpacked and packed again, is the same return; the rows of a packed text are the numbers that its
-- fields say." What a text says is `text_read` (crates/texts): an edition and rows, or its first fault.
use Rattle.std.specs.Prelude.{ℕ, suc, ◌+◌, ◌-◌, ◌*◌, ◌^◌, ◌≤◌, ◌<◌, ◌≡◌, refl, true, false, ◌||◌, List, [], ◌∷◌, ◌++◌, ltb, length, get_or, take, Ok, Err}
use Rattle.std.proofs.Common.{ap, ◌∙◌, arith, le-ltb, ne_eqb}
use Rattle.form.specs.Layout.{numbers_of}
use Rattle.form.specs.Block.{longest}
use Rattle.form.specs.Ruling.{ruling, on_front}
use Rattle.form.specs.Verdict.{rules, counts_of, verdict_of}
use Rattle.form.specs.declared.Counts.{Counts}
use Rattle.form.specs.Refusals.{Clean, Refused, Ruling}
use Rattle.form.proofs.Order.{kept-before, one_kept}
use Rattle.standing.proofs.Accepted.{accepted-ruling, formed, whole-blocks}
use Rattle.filing.specs.Lists.{cut, filed_lists}
use Rattle.filing.specs.Written.{used_from}
use Rattle.lists.specs.Rules.{list_rules}
use Rattle.rows.specs.Writing.{written}
use Rattle.trips.proofs.RoundTrips.{accepted_again}
use Rattle.handed.specs.Rows.{write_call, blocks_after, size_after}
use Rattle.phrases.specs.Ascii.{codes}
use Rattle.phrases.specs.Lines.{number_line}
use Rattle.numerals.specs.Numerals.{is_mark, AllDigits, value_of}
use Rattle.cells.specs.Cells.{cell_at}
use Rattle.cells.specs.Lines.{text_lines}
use Rattle.columns.specs.Columns.{decimals_of, is_unit}
use Rattle.rowtext.specs.Said.{comma_marks, unit_in, numbers_said, row_said}
use Rattle.heads.specs.Heads.{fault_number, edition_by, head_of}
use Rattle.heads.specs.declared.TextFault.{TextFault}
use Rattle.texts.specs.Texts.{TextRead, rows, faulty, text_read, row_line}
use Rattle.texts.specs.Steps.{head_line, said_in, count_in}
use Rattle.texts.proofs.Told.{text_told}
use Rattle.clashes.specs.Stands.{row_index}
use Rattle.unpacked.specs.Unpacked.{unpacked_text}
use Rattle.unpacked.specs.Rooms.{unpack_room}
use Rattle.unpacked.specs.Calls.{unpack_rooms, unpack_call, text_unpacked, size_unpacked}
use Rattle.unpacked.specs.Calls as unpack
use Rattle.packing.specs.Packing.{of_ruling, packed_by, pack_call, bytes_by, bytes_packed, size_by, size_packed}
use Rattle.objections.specs.Objections.{line_lines}
use Rattle.textrips.proofs.Faults.{fault-known}
use Rattle.textrips.proofs.Worth.{whole_worth, marked_worth}
use Rattle.textrips.proofs.Packs.{Packs, packs, unpacked_packs, unpacked_fits}
use Rattle.rowlines.specs.LineSays.{LineSays}
use Rattle.rowlines.proofs.Named.{line-says, rows_before, place-used, why-line}
use Rattle.door.specs.Door.{code_of}
use Rattle.door.specs.Texts.{pack_code}
use Rattle.promises.specs.Demand2.{Bytes}

-- ---- niloferq_pack, of any text, into any rooms

-- the rows of a text get the number that niloferq_write gives rows
pub same_code : (v : Ruling) → pack_code (of_ruling v) ≡ code_of v
same_code Clean = refl
same_code (Err r) = refl

module _ (text room size : List ℕ) where
  -- a fault of the text comes first, whatever the rooms are; it is a number from 1 to 10
  pub text-fault : (f : TextFault) → text_read text ≡ faulty f → (pack_code (pack_call text room size) ≡ fault_number f.fault) × ((1 ≤ fault_number f.fault) × (fault_number f.fault ≤ 10))
  text-fault f said = (rw said refl, fault-known f.fault)

  -- then its rows are written, by the order of writing's rules (Demand1)
  pub text-rows : (e : ℕ) (lengths area : List ℕ) → text_read text ≡ rows e lengths area
      → pack_code (pack_call text room size) ≡ code_of (write_call e area lengths room size)
  text-rows e lengths area said = rw said (same_code (write_call e area lengths room size))

  -- "lent memory unchanged on a refusal"
  unchanged_by : (e : ℕ) (lengths area : List ℕ) (v : Ruling) → (pack_code (of_ruling v) ≡ 0 → ⊥)
      → (blocks_after e area lengths room v ≡ room) × (size_after e area lengths size v ≡ size)
  unchanged_by e lengths area Clean h = absurd (h refl)
  unchanged_by e lengths area (Err r) h = (refl, refl)

  unchanged : (t : TextRead) → (pack_code (packed_by t room size) ≡ 0 → ⊥) → (bytes_by t room size ≡ room) × (size_by t room size ≡ size)
  unchanged (rows e lengths area) h = unchanged_by e lengths area (write_call e area lengths room size) h
  unchanged (faulty f) h = (refl, refl)

  pub pack_refused : (pack_code (pack_call text room size) ≡ 0 → ⊥) → (bytes_packed text room size ≡ room) × (size_packed text room size ≡ size)
  pack_refused h = unchanged (text_read text) h

  -- 0: a return, which is accepted, stands at the front of the room, and its number of bytes of the other; and its rows as text pack to it again
  pub record PackedTold : Type 0 where
    pub its_bytes : List ℕ
    pub accepted : verdict_of its_bytes ≡ Ok (counts_of its_bytes)
    pub bytes : bytes_packed text room size ≡ on_front its_bytes room
    pub sized : size_packed text room size ≡ on_front (length its_bytes ∷ []) size
    pub again : (room' size' : List ℕ) → length its_bytes ≤ length room' → 1 ≤ length size' → Packs (unpacked_text its_bytes) its_bytes room' size'

-- rows that writing does not refuse are packed in the room that is named, NILOFERQ_RETURN_ROOM, so that it is always enough
pub pack_fits : (text : List ℕ) (e : ℕ) (lengths area : List ℕ) → text_read text ≡ rows e lengths area → ruling (list_rules e lengths area) ≡ Clean
    → (room size : List ℕ) → longest ≤ length room → 1 ≤ length size → pack_code (pack_call text room size) ≡ 0
pack_fits text e lengths area said clean room size long one =
    let s = written e (cut lengths area) in
    let w = whole-blocks s (counts_of s) (formed s (counts_of s) (accepted_again e lengths area clean)) in
    ap pack_code (packs text e lengths area said clean room size (omega (arith, w.1, w.2, long)) one).answered

-- ---- niloferq_pack_why: "and for 5, 6, 7, 13 and 14 `line N`, the line of that row"

-- a refusal of the text's rows, by any number but 10, which is of the lists, and 12, which is of no row
module _ (text : List ℕ) (e : ℕ) (lengths area : List ℕ) (said : text_read text ≡ rows e lengths area) (m p : ℕ) (broken : ruling (list_rules e lengths area) ≡ Refused m p)
    (ten : m ≡ 10 → ⊥) (twelve : m ≡ 12 → ⊥) where
  -- `line N` is told, and line N of the text says the row that would stand at the place: its kind and all its numbers
  pub named-line : (line_lines text lengths m p ≡ number_line (codes "line") (row_line (row_index lengths p) text) ∷ [])
      × LineSays text e ((filed_lists (cut lengths area)).kind p) ((filed_lists (cut lengths area)).row p) (row_line (row_index lengths p) text)
  named-line = (rw (ne_eqb m 12 twelve) refl, why-line text e lengths area said m p broken ten twelve)

  -- where several lines say the same, it is the right one: as many rows stand between the first line that counts and it as there are rows before the place
  pub right_line : (separator : ℕ) → head_of (head_line 0 (text_lines text)).number (head_line 0 (text_lines text)).line ≡ edition_by e separator
      → count_in separator (take (row_line (row_index lengths p) text - suc (head_line 0 (text_lines text)).number) (head_line 0 (text_lines text)).behind)
      ≡ used_from (filed_lists (cut lengths area)) 0 p
  right_line = rows_before text e lengths area said p (place-used e lengths area m p broken ten twelve)

-- ---- niloferq_unpack

-- "the text that `unpack` makes of an accepted return packs to the same bytes"
pub unpacked_same : (s : List ℕ) (c : Counts) → verdict_of s ≡ Ok c → Bytes s → (room size : List ℕ) → length s ≤ length room → 1 ≤ length size
    → Packs (unpacked_text s) s room size
unpacked_same = unpacked_packs

-- of an accepted return, in the room that is named: 0, the text and its number of bytes; so that room is always enough
pub unpack_told : (s : List ℕ) (c : Counts) → verdict_of s ≡ Ok c → (room size : List ℕ) → unpack_room ≤ length room → 1 ≤ length size
    → (code_of (unpack_call s room size) ≡ 0)
    × ((text_unpacked s room size ≡ on_front (unpacked_text s) room) × (size_unpacked s room size ≡ on_front (length (unpacked_text s) ∷ []) size))
unfolding ruling
unpack_told s c accepted room size long one =
    let fits = unpacked_fits s c accepted in
    let a : ltb (length room) (length (unpacked_text s)) ≡ false = le-ltb (length room) (length (unpacked_text s)) (omega (arith, fits)) in
    let b : ltb (length size) 1 ≡ false = le-ltb (length size) 1 one in
    let q : (ltb (length room) (length (unpacked_text s)) || ltb (length size) 1) ≡ false = rw (a, b) refl in
    rw (kept-before (rules s) (unpack_rooms s room size ∷ []) (accepted-ruling s c accepted) ∙ one_kept 9 _ [] q) (refl, (refl, refl))

unpack_unchanged : (s room size : List ℕ) (v : Ruling) → (code_of v ≡ 0 → ⊥) → (unpack.room_by s room v ≡ room) × (unpack.size_by s size v ≡ size)
unpack_unchanged s room size Clean h = absurd (h refl)
unpack_unchanged s room size (Err r) h = (refl, refl)

pub unpack_refused : (s room size : List ℕ) → (code_of (unpack_call s room size) ≡ 0 → ⊥) → (text_unpacked s room size ≡ room) × (size_unpacked s room size ≡ size)
unpack_refused s room size h = unpack_unchanged s room size (unpack_call s room size) h

-- ---- "the rows of a packed text are the numbers that its fields say (.. digits, mark, missing decimals)"

-- every line is read: behind the first that counts, which says the edition and the separator, the numbers of each line in turn are the area
pub record EveryLine (text : List ℕ) (e : ℕ) (area : List ℕ) : Type 0 where
  pub separator : ℕ
  pub head : head_of (head_line 0 (text_lines text)).number (head_line 0 (text_lines text)).line ≡ edition_by e separator
  pub said : area ≡ said_in separator (head_line 0 (text_lines text)).behind

module _ (text : List ℕ) (e : ℕ) (lengths area : List ℕ) (read : text_read text ≡ rows e lengths area) where
  pub every-line : EveryLine text e area
  every-line = let told = text_told text read in record { separator = told.separator; head = told.head; said = told.said }

  -- and each row, at the place where it would stand, is what a line says
  pub every-row : (p : ℕ) → (filed_lists (cut lengths area)).used p ≡ true
      → LineSays text e ((filed_lists (cut lengths area)).kind p) ((filed_lists (cut lengths area)).row p) (row_line (row_index lengths p) text)
  every-row = line-says text e lengths area read

-- what a line's fields say: of a row of a kind that was read from a line, and a field of it that is no unit, whose cell begins with digits
module _ (sep kind : ℕ) (l : List ℕ) (read : row_said sep kind l ≡ Ok tt) (i : ℕ) (h : i < numbers_of kind) (number : is_unit kind i ≡ false)
    (a : List ℕ) (are : AllDigits a) (some : 0 < length a) where
  -- digits alone: their number, times ten for each decimal of the field
  pub whole-number : cell_at sep (suc i) l ≡ a → get_or (numbers_said sep kind l) i 0 ≡ value_of a * 10 ^ decimals_of kind (unit_in sep l) i
  whole-number = whole_worth sep kind l read i h number a are some

  -- and with a mark and digits behind it: no more than the field has decimals, and what they say, times ten for each that is missing
  pub marked-number : (m : ℕ) → is_mark (comma_marks sep) m ≡ true → (b : List ℕ) → AllDigits b → 0 < length b → cell_at sep (suc i) l ≡ a ++ m ∷ b
      → (length b ≤ decimals_of kind (unit_in sep l) i)
      × (get_or (numbers_said sep kind l) i 0
      ≡ value_of a * 10 ^ decimals_of kind (unit_in sep l) i + value_of b * 10 ^ (decimals_of kind (unit_in sep l) i - length b))
  marked-number m mark b behind some_behind cell =
      let w = marked_worth sep kind l read i h number a are some m mark b behind some_behind cell in
      (w.few, w.worth)
