-- THE TEXT OF ROWS READS BACK AS THE ROWS, of all rows that can be written. Assumes nothing.
--     text_back       the text that `unpack` prints of rows says their edition, their lengths and their numbers
use Prim.Native.Nat.{ℕ, zero, suc, ◌+◌, ◌*◌, ◌/◌, ◌%◌, ◌<◌, ◌≤◌}
use mathlib.Core.Path.{◌≡◌, sym, ap, ap₂, subst, ◌∙◌}
use mathlib.Core.Bool.{Bool, true, false, cond}
use mathlib.Core.List.{List, [], ◌∷◌, ◌++◌, flatten, map}
use native.Mathlib.Nat.{div-add-mod}
use native.Mathlib.Numerals.{one-add}
use native.Mathlib.Omega.{arith}
use lib.Dec.{eqb}
use lib.ListN.{length, get_or}
use Rattle.form.specs.Ruling.{ruling}
use Rattle.form.specs.Layout.{kinds, layout, numbers_of, above_limit}
use Rattle.form.specs.Refusals.{Clean}
use Rattle.form.proofs.EachKind.{small-edition}
use Rattle.decimal.specs.Digits.{decimal}
use Rattle.cells.specs.Lines.{ended, text_lines, lines_of}
use Rattle.cells.proofs.LineLaws.{AllWhole, lines-ended}
use Rattle.cells.proofs.WordLaws.{no_mark_by}
use Rattle.numerals.proofs.Amounts.{decimal-digits, decimal_some}
use Rattle.filing.specs.Lists.{Lists, of_kind, cut, rows_in, row_of}
use Rattle.filing.proofs.Cut.{cut-lengths, flat-cut}
use Rattle.lists.specs.Rules.{list_rules}
use Rattle.trips.proofs.Standing.{Clear, clear, kept-lists}
use Rattle.trips.proofs.Fitting.{length-row_of}
use Rattle.texts.specs.Texts.{rows, text_read}
use Rattle.unpacked.specs.Unpacked.{row_lines_to, kind_lines, lists_lines, note_line, row_line, edition_line, lists_text}
use Rattle.unpacked.specs.Rooms.{unpack_room}
use Rattle.textrips.proofs.Neat.{neat-digits, neat-plain}
use Rattle.textrips.proofs.Limits.{row_within, number_small, unit-known}
use Rattle.textrips.proofs.Lines.{Readable, Each, each_of}
use Rattle.textrips.proofs.Rows.{row_back, note-passed, row-whole, note-whole, head-whole}
use Rattle.textrips.proofs.Lengths.{Fitting, text-room}
use Rattle.textrips.proofs.Heads.{text_reads}

-- ---- the lines come apart again

whole_append : (xs ys : List (List ℕ)) → AllWhole xs → AllWhole ys → AllWhole (xs ++ ys)
whole_append [] ys a b = b
whole_append (x ∷ xs) ys a b = (a.0, whole_append xs ys a.1 b)

rows_whole : (kind : ℕ) (r : List ℕ) → 0 < kind → kind ≤ kinds → (m : ℕ) → AllWhole (row_lines_to kind r m)
unfolding row_lines_to
rows_whole kind r low high zero = tt
rows_whole kind r low high (suc m) =
    whole_append (row_lines_to kind r m) (row_line kind (row_of kind r m) ∷ []) (rows_whole kind r low high m) (row-whole kind (row_of kind r m) low high, tt)

kind-whole : (kind : ℕ) (r : List ℕ) → 0 < kind → kind ≤ kinds → AllWhole (kind_lines kind r)
unfolding kind_lines
kind-whole kind r low high = by (eqb (rows_in kind (length r)) 0)
  where
    by : (t : Bool) → AllWhole (cond t [] (note_line kind ∷ row_lines_to kind r (rows_in kind (length r))))
    by true = tt
    by false = (note-whole kind low high, rows_whole kind r low high (rows_in kind (length r)))

lists-whole : (k : ℕ) (l : Lists) → 0 < k → k + length l ≤ suc kinds → AllWhole (lists_lines k l)
unfolding lists_lines
lists-whole k [] low high = tt
lists-whole k (r ∷ l) low high =
    whole_append (kind_lines k r) (lists_lines (suc k) l) (kind-whole k r low (omega arith)) (lists-whole (suc k) l (omega arith) (omega arith))

lines_back : (e : ℕ) (l : Lists) → length l ≡ kinds → text_lines (lists_text e l) ≡ edition_line e ∷ lists_lines 1 l
unfolding lists_text ended
lines_back e l long =
    ap lines_of (no_mark_by (ended (edition_line e ∷ lists_lines 1 l)) (λ q. absurd (omega arith)))
    ∙ lines-ended (edition_line e ∷ lists_lines 1 l) (head-whole e, lists-whole 1 l (omega arith) (omega (arith, long)))

-- ---- rows that can be written

whole-rows : (n m : ℕ) → m % n ≡ 0 → n * (m / n) ≡ m
whole-rows n m z = omega (arith, div-add-mod m n, z)

unit_of : (kind : ℕ) (r : List ℕ) → kind ≡ 2 → above_limit (layout kind) r ≡ false → get_or r 1 0 ≤ 1
unit_of kind r two e = unit-known r (rw two at e)

module _ (e : ℕ) (l : Lists) (ok : Clear e l) where
  module _ (k : ℕ) (h : k < kinds) where
    list : List ℕ
    list = of_kind l (suc k)

    few_there : (i : ℕ) → i < rows_in (suc k) (length list) → (j : ℕ) → get_or (row_of (suc k) list i) j 0 ≤ 4294967295
    unfolding list
    few_there i g = number_small (suc k) (row_of (suc k) list i) (row_within e l ok k i h g) (length-row_of (suc k) list i g)

    unit_there : (i : ℕ) → i < rows_in (suc k) (length list) → suc k ≡ 2 → get_or (row_of (suc k) list i) 1 0 ≤ 1
    unfolding list
    unit_there i g two = unit_of (suc k) (row_of (suc k) list i) two (row_within e l ok k i h g)

    readable : Readable (suc k) list
    unfolding list
    readable = record {
      all = whole-rows (numbers_of (suc k)) (length list) (ok.whole k h);
      few = ok.few k h;
      noted = note-passed (suc k);
      each = λ i g. row_back (suc k) (row_of (suc k) list i) (omega arith) (omega arith) (length-row_of (suc k) list i g) (few_there i g) (unit_there i g);
    }

    fitting : Fitting (suc k) list
    unfolding list
    fitting = record { few = ok.few k h; each = few_there }

  each_list : (P : ℕ → List ℕ → Type 0) → ((k : ℕ) → k < kinds → P (suc k) (of_kind l (suc k))) → Each P 1 l
  each_list P f = each_of P l 1 (λ j g. subst (λ (i : ℕ). P i (get_or l j [])) (sym (one-add j)) (f j (omega (arith, ok.each))))

  -- and the room that is named is enough
  few_editions : e ≤ 4294967295
  few_editions = omega (arith, small-edition e ok.edition)

  pub lists-room : length (lists_text e l) ≤ unpack_room
  unfolding list
  lists-room = text-room e l few_editions ok.each (each_list Fitting fitting)

  pub lists_back : text_read (lists_text e l) ≡ rows e (map length l) (flatten l)
  unfolding list
  lists_back =
      text_reads e few_editions (neat-plain (decimal e) (neat-digits (decimal e) (decimal-digits e)) (decimal_some e)) l ok.each
      (each_list Readable readable) (lines_back e l ok.each) (omega (arith, lists-room))

-- rows in one area, with the length of each kind's part
pub text_back : (e : ℕ) (lengths area : List ℕ) → ruling (list_rules e lengths area) ≡ Clean → text_read (lists_text e (cut lengths area)) ≡ rows e lengths area
text_back e lengths area clean =
    let g = (kept-lists e lengths area clean).0 in
    lists_back e (cut lengths area) (clear e lengths area clean)
    ∙ ap₂ (rows e) (cut-lengths lengths area (omega (arith, g.all))) (flat-cut lengths area g.all)
