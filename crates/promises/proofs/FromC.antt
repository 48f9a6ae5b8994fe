-- What niloferq_write leaves where it gets back 0, and both round trips from C (specs/FromC).
use Rattle.std.specs.Prelude.{ℕ, ◌≤◌, ◌≡◌, refl, List, [], ◌∷◌, ◌++◌, take}
use Rattle.std.proofs.Common.{◌∙◌, take_at}
use Rattle.std.proofs.Math.Path.{ap}
use Rattle.std.proofs.Math.ListN.{length, drop, get_or-append}
use Rattle.form.specs.Layout.{kinds}
use Rattle.form.specs.Ruling.{on_front}
use Rattle.form.specs.Verdict.{counts_of, count_list}
use Rattle.form.proofs.Order.{clean-ruling}
use Rattle.filing.specs.Lists.{cut}
use Rattle.rows.specs.Reading.{lengths_of}
use Rattle.rows.specs.Writing.{written}
use Rattle.trips.proofs.Again.{returned, left_behind}
use Rattle.counted.specs.Counts.{counts_room}
use Rattle.handed.specs.Rows.{read_call, rows_read, counts_read, write_call, blocks_written, size_written}
use Rattle.handed.proofs.Calls.{read-called, read-answered, write_answered}
use Rattle.door.specs.Door.{code_of}
use Rattle.promises.proofs.Demand1.{c_read_by_order, c_write_by_order}
use Rattle.promises.specs.Demand2.{Bytes, written_reads_back, read_writes_back}
use Rattle.promises.specs.FromC.{bytes_left, ReadsBackC, edition_left, lengths_left, rows_left, WritesBackC, written_from}

-- niloferq_write, where it gets back 0: the blocks, and their number of bytes
module _ (edition : ℕ) (area lengths room size : List ℕ) where
  pub c_write_told : code_of (write_call edition area lengths room size) ≡ 0
      → let w = written edition (cut lengths area) in
      (blocks_written edition area lengths room size ≡ on_front w room) × (size_written edition area lengths room size ≡ on_front (length w ∷ []) size)
  c_write_told e = rw (clean-ruling ((c_write_by_order edition area lengths room size).answered_by.0 e)) (refl, refl)

module _ (edition : ℕ) (rows lengths room size : List ℕ) (zero : code_of (write_call edition rows lengths room size) ≡ 0) where
  -- its bytes are those that the write from Rattle leaves
  left : let n = length (written edition (cut lengths rows)) in
      bytes_left (blocks_written edition rows lengths room size) (size_written edition rows lengths room size) ≡ returned edition lengths rows room n
  left = let t = c_write_told edition rows lengths room size zero in rw (t.0, t.1)

  pub c_written_reads_back : (area counts : List ℕ) → length rows ≤ length area → counts_room ≤ length counts
      → ReadsBackC edition lengths rows (bytes_left (blocks_written edition rows lengths room size) (size_written edition rows lengths room size)) area counts
  unfolding kinds
  c_written_reads_back area counts long h =
      let n = length (written edition (cut lengths rows)) in
      let s = returned edition lengths rows room n in
      let w = write_answered edition rows lengths room size (clean-ruling ((c_write_by_order edition rows lengths room size).answered_by.0 zero)) in
      let r = written_reads_back edition lengths rows room n w area long in
      let k = read-called s area counts (counts_of s) r.accepted h in
      rw left
      (record {
        code = ap code_of k;
        same_edition = rw k r.same_edition;
        counted = λ i l. rw k (get_or-append (count_list (counts_of s)) ((counts_of s).scattered ∷ drop counts_room counts) 0 i l ∙ r.counts i l);
        scattered = rw k r.scattered;
        front = rw k r.front;
      })

pub c_read_writes_back : (s : List ℕ) → Bytes s → (area counts : List ℕ) → code_of (read_call s area counts) ≡ 0
    → (room size : List ℕ) → length s ≤ length room → 1 ≤ length size
    → let n = counts_read s area counts in WritesBackC s (edition_left n) (rows_left (rows_read s area counts) n) (lengths_left n) room size
unfolding kinds
c_read_writes_back s small area counts zero room size long h =
    let c = counts_of s in
    let k = clean-ruling ((c_read_by_order s area counts).answered_by.0 zero) in
    let r = read_writes_back s small area c (read-answered s area counts k) room long in
    let e : take kinds (count_list c ++ (c.scattered ∷ drop counts_room counts)) ≡ count_list c = take_at (count_list c) (c.scattered ∷ drop counts_room counts) kinds refl in
    rw (k, e) (written_from s c.edition (left_behind s area c) (lengths_of c) room size r.done r.front h)
