-- A rule tried over the lists of an area, kind after kind. Assumes nothing.
--     part_in, part_is, part-long, part-next    the part of an area that is a kind's list
--     scan_found, scan_more, scan_all    a place is found there, or the next kind is tried, or none is left
use Prim.Native.Nat.{ℕ, suc, ◌+◌, ◌-◌, ◌*◌, ◌≤◌, ◌<◌}
use mathlib.Core.Path.{◌≡◌, sym, ap, ◌∙◌}
use mathlib.Core.List.{List, []}
use native.Mathlib.Numerals.{add-one}
use native.Mathlib.Omega.{arith}
use lib.ListN.{length, get_or, take, drop, drop_of_length-le}
use Rattle.form.specs.First.{or_else, first}
use Rattle.form.specs.Layout.{kinds}
use Rattle.std.specs.Prelude.{None, Option, Some}
use Rattle.filing.specs.Lists.{cut, total, rows_in, blocks_of, filed_list, filed_from, filed_lists}
use Rattle.filing.proofs.Cut.{cut-length, part_at, cut-long, total_none, total-next, total-part}
use Rattle.lists.specs.Rules.{Good, shifted, first_of}
use Rattle.lists.proofs.Places.{shift_zero, first-kinds}

-- the part of an area that is kind k + 1's list, of m numbers from `from` on
module _ (area : List ℕ) (k : ℕ) {lengths : List ℕ} {from m : ℕ} (g : Good lengths (length area)) (at : from ≡ total (take k lengths)) (h : k < kinds)
    (em : m ≡ get_or lengths k 0) where
  pub in_lengths : k < length lengths
  in_lengths = omega (arith, g.each)

  pub part_in : from + m ≤ length area
  part_in = omega (arith, g.all, total-next lengths k in_lengths, total-part lengths (k + 1))

  pub part_is : take (from + m - from) (drop from area) ≡ get_or (cut lengths area) k []
  part_is = part_at lengths area k in_lengths at em

  pub part-long : length (take (from + m - from) (drop from area)) ≡ m
  part-long = ap length part_is ∙ cut-long lengths area (omega (arith, g.all)) k in_lengths ∙ sym em

  -- where the next begins
  pub part-next : from + m ≡ total (take (k + 1) lengths)
  part-next = omega (arith, total-next lengths k in_lengths)

-- the lists of the first k kinds have been tried; the next begins at `from` in the area, and its first record would stand at `start`
pub record Scanning (n e : ℕ) (lengths area : List ℕ) (from start k : ℕ) : Type 0 where
  pub within : k ≤ kinds
  pub at : from ≡ total (take k lengths)
  pub low : start ≤ 36 * k
  pub so_far : first_of n e (filed_lists (cut lengths area)) ≡ shifted start (first_of n e (filed_from (suc k) (drop k (cut lengths area))))

pub scan_none : (n e : ℕ) (lengths area : List ℕ) → Scanning n e lengths area 0 0 0
scan_none n e lengths area =
    record { within = omega arith; at = sym (total_none lengths); low = omega arith; so_far = sym (shift_zero (first_of n e (filed_lists (cut lengths area)))) }

module _ {n e : ℕ} {lengths area : List ℕ} {from start k m : ℕ} (g : Good lengths (length area)) (s : Scanning n e lengths area from start k) (h : k < kinds)
    (em : m ≡ get_or lengths k 0) where
  pub scan_few : rows_in (k + 1) (length (take (from + m - from) (drop from area))) ≤ 32
  scan_few = rw (part-long area k g s.at h em, em, add-one k) (g.few k h)

  next : first_of n e (filed_lists (cut lengths area))
      ≡ or_else (shifted start (first_of n e (filed_list (k + 1) (take (from + m - from) (drop from area)))))
      (shifted (start + 12 * blocks_of (k + 1) m) (first_of n e (filed_from (suc (k + 1)) (drop (k + 1) (cut lengths area)))))
  next =
      let i = in_lengths area k g s.at h em in
      s.so_far
      ∙ rw (add-one k)
      (rw (← part_is area k g s.at h em, part-long area k g s.at h em) at
      (first-kinds n e (cut lengths area) k start (omega (arith, cut-length lengths area))))

  module _ {r : (Option ℕ)} (er : r ≡ shifted start (first_of n e (filed_list (k + 1) (take (from + m - from) (drop from area))))) where
    pub scan_found : {i : ℕ} → r ≡ Some i → Some i ≡ first_of n e (filed_lists (cut lengths area))
    scan_found e' = sym (next ∙ rw (← er, e'))

    pub scan_more : {p : ℕ} → r ≡ None → p ≡ 12 * blocks_of (k + 1) m → Scanning n e lengths area (from + m) (start + p) (k + 1)
    scan_more e' ep =
        let few : rows_in (k + 1) m ≤ 32 = rw (add-one k, em) (g.few k h) in
        record {
          within = omega arith;
          at = part-next area k g s.at h em;
          low = omega arith;
          so_far = next ∙ rw (← er, e', ← ep);
        }

pub scan_all : {n e : ℕ} {lengths area : List ℕ} {from start k : ℕ} → Good lengths (length area) → Scanning n e lengths area from start k → kinds ≤ k
    → None ≡ first_of n e (filed_lists (cut lengths area))
unfolding filed_from first
scan_all {n} {e} {lengths} {area} {from} {start} {k} g s h =
    let none : drop k (cut lengths area) ≡ [] = drop_of_length-le (cut lengths area) {i = k} (omega (arith, cut-length lengths area, g.each)) in
    sym (s.so_far ∙ rw none)
