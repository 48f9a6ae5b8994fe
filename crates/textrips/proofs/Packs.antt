-- THE ROUND TRIPS THROUGH THE ANSWERS OF `pack`. Assumes nothing.
--     packs           a text that says rows which no rule refuses packs to their return
--     unpacked_packs  "the text that `unpack` makes of an accepted return packs to the same bytes"
--     packs_again     "a text that packs, unpacked and packed again, is the same return"
use Prim.Native.Nat.{ℕ, ◌<◌, ◌≤◌}
use mathlib.Core.Path.{◌≡◌, refl, sym, ap, subst, ◌∙◌}
use mathlib.Core.List.{List, [], ◌∷◌}
use native.Mathlib.Omega.{arith}
use lib.ListN.{length}
use Rattle.std.specs.Prelude.{Ok}
use Rattle.form.specs.Bytes.{byte_at}
use Rattle.form.specs.Layout.{kinds}
use Rattle.form.specs.Ruling.{ruling, on_front}
use Rattle.form.specs.Block.{edition}
use Rattle.form.specs.Verdict.{counts_of, verdict_of}
use Rattle.form.specs.declared.Counts.{Counts}
use Rattle.form.specs.Refusals.{Clean, Ruling}
use Rattle.std.specs.Prelude.{Ok, Err}
use Rattle.form.proofs.Order.{kept-before, long_enough, append_kept, ruling-clean, clean-ruling}
use Rattle.standing.proofs.Accepted.{formed, formed_counts}
use Rattle.filing.specs.Lists.{Lists, cut}
use Rattle.filing.proofs.Cut.{cut-flat}
use Rattle.lists.specs.Rules.{list_rules}
use Rattle.rows.specs.Reading.{area_to, row_lists, lengths_of}
use Rattle.rows.specs.Writing.{written, room_rule, written_by, write_answer}
use Rattle.trips.proofs.RoundTrips.{area_is, accepted_again, clean_again, bytes_again, edition_again}
use Rattle.trips.proofs.WriteBack.{lengths_are}
use Rattle.trips.proofs.ReadBack.{rows_back}
use Rattle.trips.proofs.Standing.{clear}
use Rattle.handed.specs.Rows.{write_call}
use Rattle.handed.proofs.Calls.{write_called}
use Rattle.texts.specs.Texts.{TextRead, rows, faulty, text_read}
use Rattle.unpacked.specs.Unpacked.{lists_text, unpacked_text}
use Rattle.packing.specs.Packing.{pack_call, packed_by, of_ruling, bytes_packed, size_packed}
use Rattle.unpacked.specs.Rooms.{unpack_room}
use Rattle.textrips.proofs.ReadBack.{lists-room, text_back}

-- a text packs to a return, in these rooms: the return stands at the front of the one, and its number of bytes of the other; later elements keep their values
pub record Packs (text s room size : List ℕ) : Type 0 where
  pub answered : pack_call text room size ≡ Ok tt
  pub bytes : bytes_packed text room size ≡ on_front s room
  pub sized : size_packed text room size ≡ on_front (length s ∷ []) size

-- rows that no rule refuses are written, where there is room
written-clean : (e : ℕ) (lengths area room size : List ℕ) → ruling (list_rules e lengths area) ≡ Clean → length (written e (cut lengths area)) ≤ length room
    → 1 ≤ length size → write_call e area lengths room size ≡ Clean
unfolding write_answer
written-clean e lengths area room size clean long one =
    let n = length (written e (cut lengths area)) in
    let done : write_answer e lengths area room ≡ Ok n =
    ap (written_by e (cut lengths area)) (kept-before (list_rules e lengths area) (room_rule e (cut lengths area) room ∷ []) clean ∙ long_enough n room long) in
    write_called e area lengths room size n done one

pub packs : (text : List ℕ) (e : ℕ) (lengths area : List ℕ) → text_read text ≡ rows e lengths area → ruling (list_rules e lengths area) ≡ Clean
    → (room size : List ℕ) → length (written e (cut lengths area)) ≤ length room → 1 ≤ length size → Packs text (written e (cut lengths area)) room size
packs text e lengths area said clean room size long one =
    let w = written-clean e lengths area room size clean long one in
    record { answered = rw (said, w) refl; bytes = rw (said, w) refl; sized = rw (said, w) refl }

-- an accepted return
module _ (s : List ℕ) (c : Counts) (accepted : verdict_of s ≡ Ok c) where
  told : edition s 0 ≡ c.edition
  told = sym (ap (λ (x : Counts). x.edition) (formed_counts s c (formed s c accepted)))

  lists_are : cut (lengths_of c) (area_to s kinds) ≡ row_lists s
  lists_are = rw (lengths_are s c (formed s c accepted), ← area_is s) (cut-flat (row_lists s))

  -- its text says its edition and its rows
  pub unpacked_reads : text_read (unpacked_text s) ≡ rows c.edition (lengths_of c) (area_to s kinds)
  unpacked_reads =
      ap (λ (e : ℕ). text_read (lists_text e (row_lists s))) told
      ∙ ap (λ (l : Lists). text_read (lists_text c.edition l)) (sym lists_are)
      ∙ text_back c.edition (lengths_of c) (area_to s kinds) (clean_again s c accepted)

  pub unpacked_packs : ((i : ℕ) → i < length s → byte_at s i < 256) → (room size : List ℕ) → length s ≤ length room → 1 ≤ length size
      → Packs (unpacked_text s) s room size
  unpacked_packs small room size long one =
      let same = bytes_again s c accepted small in
      subst (λ (w : List ℕ). Packs (unpacked_text s) w room size) same
      (packs (unpacked_text s) c.edition (lengths_of c) (area_to s kinds) unpacked_reads (clean_again s c accepted) room size (rw same long) one)

-- a text that packs: what it says, and that no rule refuses it
pub record Says (text room size : List ℕ) : Type 0 where
  pub edition-said : ℕ
  pub lengths : List ℕ
  pub area : List ℕ
  pub said : text_read text ≡ rows edition-said lengths area
  pub called : write_call edition-said area lengths room size ≡ Clean

was_clean : (v : Ruling) → of_ruling v ≡ Ok tt → v ≡ Clean
was_clean Clean e = refl
was_clean (Err r) e = let z : ◌≡◌ {A = ℕ} 0 1 = cc in absurd (omega arith)

says_by : (text room size : List ℕ) (t : TextRead) → text_read text ≡ t → packed_by t room size ≡ Ok tt → Says text room size
says_by text room size (rows e lengths area) q p = record { edition-said = e; lengths = lengths; area = area; said = q; called = was_clean (write_call e area lengths room size) p }
says_by text room size (faulty f) q p = let z : ◌≡◌ {A = ℕ} 0 1 = cc in absurd (omega arith)

pub packed_says : (text room size : List ℕ) → pack_call text room size ≡ Ok tt → Says text room size
packed_says text room size p = says_by text room size (text_read text) refl p

module _ (text room size : List ℕ) (w : Says text room size) where
  -- no rule of its rows is broken
  pub clean-rows : ruling (list_rules w.edition-said w.lengths w.area) ≡ Clean
  clean-rows = clean-ruling (append_kept (list_rules w.edition-said w.lengths w.area) _ (ruling-clean w.called)).0

  -- its return
  unfoldable pub its_return : List ℕ
  its_return = written w.edition-said (cut w.lengths w.area)

  -- which is accepted, and which the rooms hold
  pub return-accepted : verdict_of its_return ≡ Ok (counts_of its_return)
  unfolding its_return
  return-accepted = accepted_again w.edition-said w.lengths w.area clean-rows

  pub rooms_hold : (bytes_packed text room size ≡ on_front its_return room) × (size_packed text room size ≡ on_front (length its_return ∷ []) size)
  unfolding its_return
  rooms_hold = rw (w.said, w.called) (refl, refl)

  -- its text is that of the rows that were written
  text_is : unpacked_text its_return ≡ lists_text w.edition-said (cut w.lengths w.area)
  unfolding its_return
  text_is =
      let l = cut w.lengths w.area in
      let ok = clear w.edition-said w.lengths w.area clean-rows in
      ap (λ (e : ℕ). lists_text e (row_lists (written w.edition-said l))) (edition_again w.edition-said w.lengths w.area clean-rows)
      ∙ ap (lists_text w.edition-said) (rows_back w.edition-said l ok)

  pub packs_again : (room' size' : List ℕ) → length its_return ≤ length room' → 1 ≤ length size' → Packs (unpacked_text its_return) its_return room' size'
  unfolding its_return
  packs_again room' size' long one =
      packs (unpacked_text its_return) w.edition-said w.lengths w.area
      (ap text_read text_is ∙ text_back w.edition-said w.lengths w.area clean-rows) clean-rows room' size' long one

-- ---- the room that is named for the text of a return
pub unpacked_fits : (s : List ℕ) (c : Counts) → verdict_of s ≡ Ok c → length (unpacked_text s) ≤ unpack_room
unpacked_fits s c accepted =
    let l = cut (lengths_of c) (area_to s kinds) in
    let short = lists-room c.edition l (clear c.edition (lengths_of c) (area_to s kinds) (clean_again s c accepted)) in
    let same : unpacked_text s ≡ lists_text c.edition l =
    ap (λ (e : ℕ). lists_text e (row_lists s)) (told s c accepted) ∙ ap (lists_text c.edition) (sym (lists_are s c accepted)) in
    rw same short
