-- THE ROUND TRIPS, over all rows and all bytes, about the definitions that the contracts of rows::write and rows::read cite. Assumes nothing.
--     accepted_again, edition_again, counts_again, scattered_again, rows_again    written and read: accepted, with the edition, the counts and the rows
--     lists-accepted, lists-rows                  the same of row lists that lie by themselves, their rows one by one
--     clean_again, bytes_again                    read and written: no rule broken, and the same bytes
use Prim.Native.Nat.{ℕ, zero, suc, ◌<◌}
use mathlib.Core.Path.{◌≡◌, refl, sym, ap, subst, ◌∙◌}
use mathlib.Core.List.{List, ◌++◌, flatten, map}
use native.Mathlib.Omega.{arith}
use lib.ListN.{length, get_or}
use Rattle.form.specs.Ruling.{ruling}
use Rattle.form.specs.Bytes.{byte_at}
use Rattle.form.specs.Layout.{kinds}
use Rattle.form.specs.Block.{edition}
use Rattle.form.specs.Records.{filed_rows}
use Rattle.form.specs.Sums.{scattered_in}
use Rattle.form.specs.Verdict.{row_count, rows, counts_of, Formed, verdict_of}
use Rattle.form.specs.Standing.{rows_from}
use Rattle.form.specs.declared.Counts.{Counts}
use Rattle.form.specs.Refusals.{Clean}
use Rattle.std.specs.Prelude.{Ok}
use Rattle.standing.proofs.Accepted.{accepted-ruling, formed, formed_counts}
use Rattle.filing.specs.Lists.{Lists, of_kind, cut, rows_in, filed_list, filed_lists}
use Rattle.filing.specs.Written.{in_turn}
use Rattle.filing.proofs.Cut.{cut-long, flat-cut, cut-flat}
use Rattle.lists.specs.Rules.{Good, list_rules}
use Rattle.rows.specs.Reading.{rows_of, area_to, lists_from, row_lists, lengths_of}
use Rattle.rows.specs.Writing.{written}
use Rattle.trips.proofs.Standing.{kept-lists, Clear, clear}
use Rattle.trips.proofs.ReadBack.{edition_back, accepted_back, counts_back, scattered_back, rows_back, each_back}
use Rattle.trips.proofs.WriteBack.{lengths_are, rows-clean, written_back}

-- the rows of a return in one area are its row lists, one after the other
flat_from : (s : List ℕ) (n k : ℕ) → flatten (lists_from s k n) ≡ in_turn (rows_of s) k n
unfolding flatten lists_from in_turn
flat_from s zero k = refl
flat_from s (suc n) k = ap (λ (x : List ℕ). rows_of s k ++ x) (flat_from s n (suc k))

pub area_is : (s : List ℕ) → flatten (row_lists s) ≡ area_to s kinds
area_is s = flat_from s kinds 1

-- rows that no rule refuses: their return is accepted with their counts, and its rows, kind after kind, are the rows
module _ (ed : ℕ) (lengths area : List ℕ) (clean : ruling (list_rules ed lengths area) ≡ Clean) where
  ok : Clear ed (cut lengths area)
  ok = clear ed lengths area clean

  good_lists : Good lengths (length area)
  good_lists = (kept-lists ed lengths area clean).0

  pub accepted_again : verdict_of (written ed (cut lengths area)) ≡ Ok (counts_of (written ed (cut lengths area)))
  accepted_again = accepted_back ed (cut lengths area) ok

  pub counts_again : (k : ℕ) → k < kinds → row_count (suc k) (written ed (cut lengths area)) ≡ rows_in (suc k) (get_or lengths k 0)
  counts_again k h =
      counts_back ed (cut lengths area) ok k h
      ∙ ap (rows_in (suc k)) (cut-long lengths area (omega (arith, good_lists.all)) k (omega (arith, good_lists.each)))

  pub scattered_again : scattered_in (rows 2 (written ed (cut lengths area))) ≡ scattered_in (filed_rows (filed_lists (cut lengths area)) 2)
  scattered_again = scattered_back ed (cut lengths area) ok

  pub rows_again : area_to (written ed (cut lengths area)) kinds ≡ area
  rows_again =
      sym (area_is (written ed (cut lengths area)))
      ∙ ap flatten (rows_back ed (cut lengths area) ok)
      ∙ flat-cut lengths area good_lists.all

  pub edition_again : edition (written ed (cut lengths area)) 0 ≡ ed
  edition_again = edition_back ed (cut lengths area) ok

-- row lists that lie by themselves, of which the same is so: the rows of each kind, one by one
module _ (ed : ℕ) (l : Lists) (clean : ruling (list_rules ed (map length l) (flatten l)) ≡ Clean) where
  ok_lists : Clear ed l
  ok_lists = subst (λ (x : Lists). Clear ed x) (cut-flat l) (clear ed (map length l) (flatten l) clean)

  pub lists-accepted : verdict_of (written ed l) ≡ Ok (counts_of (written ed l))
  lists-accepted = accepted_back ed l ok_lists

  pub lists-rows : (k : ℕ) → k < kinds → rows (suc k) (written ed l) ≡ rows_from (filed_list (suc k) (of_kind l (suc k))) 0 (rows_in (suc k) (length (of_kind l (suc k))))
  lists-rows k h = each_back ed l ok_lists k h

-- an accepted return: no rule refuses its rows, cut by the lengths that its counts give, and their return is the return
module _ (s : List ℕ) (c : Counts) (accepted : verdict_of s ≡ Ok c) where
  acc : Formed s c
  acc = formed s c accepted

  told : edition s 0 ≡ c.edition
  told = sym (ap (λ (x : Counts). x.edition) (formed_counts s c acc))

  pub clean_again : ruling (list_rules c.edition (lengths_of c) (area_to s kinds)) ≡ Clean
  clean_again =
      rw (lengths_are s c acc, ← area_is s)
      (subst (λ (e : ℕ). ruling (list_rules e (map length (row_lists s)) (flatten (row_lists s))) ≡ Clean) told (rows-clean s c acc (accepted-ruling s c accepted)))

  pub bytes_again : ((i : ℕ) → i < length s → byte_at s i < 256) → written c.edition (cut (lengths_of c) (area_to s kinds)) ≡ s
  bytes_again small =
      rw (lengths_are s c acc, ← area_is s, cut-flat (row_lists s))
      (subst (λ (e : ℕ). written e (row_lists s) ≡ s) told (written_back s c acc small))
