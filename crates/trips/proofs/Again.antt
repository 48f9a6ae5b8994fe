-- THE ROUND TRIPS through the answers of `rows::write` and `rows::read` themselves. Assumes nothing.
--     read-accepted, read-counts, read-scattered, read-rows    what a write left, read to room that is long enough
--     left_is, write_done, write_same          what a read left, cut by the counts that it answered, written to room that is long enough
use Prim.Native.Nat.{ℕ, suc, ◌≤◌, ◌<◌}
use mathlib.Core.Path.{◌≡◌, refl, sym, ap, ◌∙◌}
use mathlib.Core.Bool.{false}
use mathlib.Core.List.{List, [], ◌∷◌}
use native.Mathlib.Omega.{arith}
use borrow.Author.Tests.{le-ltb}
use lib.ListN.{length, get_or, take, drop}
use lib.Seq.{take_at}
use Rattle.form.specs.Bytes.{byte_at}
use Rattle.form.specs.Layout.{kinds}
use Rattle.form.specs.Block.{edition}
use Rattle.form.specs.Ruling.{rule, ruling, on_front}
use Rattle.form.specs.Records.{filed_rows}
use Rattle.form.specs.Sums.{scattered_in}
use Rattle.form.specs.Verdict.{rules, counts_of, count_in, verdict_by, verdict_of}
use Rattle.form.specs.declared.Counts.{Counts}
use Rattle.form.specs.Refusals.{Clean}
use Rattle.std.specs.Prelude.{Ok}
use Rattle.form.proofs.Search.{first_is_none}
use Rattle.form.proofs.Order.{ruling_append, kept, kept-before, long_enough, or_clean}
use Rattle.form.proofs.Meaning.{clean_of}
use Rattle.standing.proofs.Accepted.{accepted-ruling, formed, counted}
use Rattle.filing.specs.Lists.{cut, total, rows_in, filed_lists}
use Rattle.filing.proofs.Cut.{total-flat}
use Rattle.filing.proofs.Laying.{length_part}
use Rattle.lists.specs.Rules.{list_rules}
use Rattle.rows.specs.Reading.{rows_of, area_to, outgrown, read_rules, read_answer, room_after, row_lists, lengths_of}
use Rattle.rows.specs.Writing.{written, room_rule, write_rules, written_by, write_answer, bytes_after}
use Rattle.rows.proofs.Return.{done_by}
use Rattle.trips.proofs.WriteBack.{lengths_are}
use Rattle.trips.proofs.RoundTrips.{area_is, accepted_again, edition_again, counts_again, scattered_again, rows_again, clean_again, bytes_again}

-- ---- written, then read

-- the bytes that a write left at the front of its room
abbrev pub returned : ℕ → List ℕ → List ℕ → List ℕ → ℕ → List ℕ
returned ed lengths area room n = take n (bytes_after ed lengths area room (Ok n))

module _ (ed : ℕ) (lengths area room : List ℕ) (n : ℕ) (done : write_answer ed lengths area room ≡ Ok n) where
  -- the return that is written
  abbrev w : List ℕ
  w = written ed (cut lengths area)

  ended : (ruling (write_rules ed lengths area room) ≡ Clean) × (length w ≡ n)
  unfolding write_answer
  ended = done_by ed (cut lengths area) (ruling (write_rules ed lengths area room)) done

  clean : ruling (list_rules ed lengths area) ≡ Clean
  clean = or_clean (ruling (list_rules ed lengths area)) _ (sym (ruling_append (list_rules ed lengths area) (room_rule ed (cut lengths area) room ∷ [])) ∙ ended.0)

  left : returned ed lengths area room n ≡ w
  left = take_at w (drop (length w) room) n ended.1

  -- the room that each kind's rows end in
  none_outgrown : (rows : List ℕ) → length area ≤ length rows → (k : ℕ) → k < suc kinds → outgrown w (length rows) k ≡ false
  none_outgrown rows h k l =
      le-ltb (length rows) (length (area_to w k)) (omega (arith, length_part (rows_of w) k kinds (omega arith), ap length (rows_again ed lengths area clean)))

  accepts : (rows : List ℕ) → length area ≤ length rows → read_answer w rows ≡ Ok (counts_of w)
  unfolding read_answer ruling
  accepts rows h =
      let last = rule 9 (suc kinds) (outgrown w (length rows)) in
      ap (verdict_by w)
      (kept-before (rules w) (last ∷ []) (accepted-ruling w (counts_of w) (accepted_again ed lengths area clean))
      ∙ sym (kept last [] (first_is_none (outgrown w (length rows)) (suc kinds) (none_outgrown rows h)) refl))

  pub read-accepted : (rows : List ℕ) → length area ≤ length rows → read_answer (returned ed lengths area room n) rows ≡ Ok (counts_of (returned ed lengths area room n))
  read-accepted rows h = rw left (accepts rows h)

  pub read-counts : (k : ℕ) → k < kinds → count_in (counts_of (returned ed lengths area room n)) (suc k) ≡ rows_in (suc k) (get_or lengths k 0)
  read-counts k h =
      ap (λ (x : List ℕ). count_in (counts_of x) (suc k)) left ∙ counted w (counts_of w) (formed w (counts_of w) (accepted_again ed lengths area clean)) k h ∙ counts_again ed lengths area clean k h

  pub read-scattered : (counts_of (returned ed lengths area room n)).scattered ≡ scattered_in (filed_rows (filed_lists (cut lengths area)) 2)
  read-scattered = ap (λ (x : List ℕ). (counts_of x).scattered) left ∙ scattered_again ed lengths area clean

  pub read-rows : (rows : List ℕ) (c : Counts) → room_after (returned ed lengths area room n) rows (Ok c) ≡ on_front area rows
  read-rows rows c = rw left (ap (λ (x : List ℕ). on_front x rows) (rows_again ed lengths area clean))

  pub read-edition : (counts_of (returned ed lengths area room n)).edition ≡ ed
  read-edition = ap (λ (x : List ℕ). edition x 0) left ∙ edition_again ed lengths area clean

-- ---- read, then written

-- the rows that a read left at the front of its room: as many numbers as its counts say
abbrev pub left_behind : List ℕ → List ℕ → Counts → List ℕ
left_behind s rows c = take (total (lengths_of c)) (room_after s rows (Ok c))

module _ (s rows : List ℕ) (c : Counts) (done : read_answer s rows ≡ Ok c) where
  judged : verdict_of s ≡ Ok c
  unfolding read_answer verdict_of
  judged =
      let d = clean_of s (ruling (read_rules s rows)) c done in
      let u = or_clean (ruling (rules s)) _ (sym (ruling_append (rules s) (rule 9 (suc kinds) (outgrown s (length rows)) ∷ [])) ∙ d.0) in
      ap (verdict_by s) u ∙ ap Ok (sym d.1)

  pub left_is : left_behind s rows c ≡ area_to s kinds
  left_is =
      let a = area_to s kinds in
      let long : length a ≡ total (lengths_of c) = sym (ap total (lengths_are s c (formed s c judged)) ∙ total-flat (row_lists s) ∙ ap length (area_is s)) in
      take_at a (drop (length a) rows) (total (lengths_of c)) long

  module _ (bytes : (i : ℕ) → i < length s → byte_at s i < 256) (room : List ℕ) (long : length s ≤ length room) where
    same : written c.edition (cut (lengths_of c) (area_to s kinds)) ≡ s
    same = bytes_again s c judged bytes

    clean-room : ruling (write_rules c.edition (lengths_of c) (area_to s kinds) room) ≡ Clean
    unfolding ruling
    clean-room =
        kept-before (list_rules c.edition (lengths_of c) (area_to s kinds)) (room_rule c.edition (cut (lengths_of c) (area_to s kinds)) room ∷ []) (clean_again s c judged)
        ∙ long_enough (length (written c.edition (cut (lengths_of c) (area_to s kinds)))) room (rw (ap length same) long)

    pub write_done : write_answer c.edition (lengths_of c) (left_behind s rows c) room ≡ Ok (length s)
    unfolding write_answer
    write_done =
        rw left_is
        (ap (written_by c.edition (cut (lengths_of c) (area_to s kinds))) clean-room ∙ ap (λ (x : List ℕ). Ok (length x)) same)

    pub write_same : bytes_after c.edition (lengths_of c) (left_behind s rows c) room (Ok (length s)) ≡ on_front s room
    write_same = rw left_is (ap (λ (x : List ℕ). on_front x room) same)
