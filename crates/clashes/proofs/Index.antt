-- The rows before the one at a place are the used places before it. Assumes nothing.
--     index-used    where a row stands
use Prim.Native.Nat.{ℕ, zero, suc, ◌+◌, ◌-◌, ◌*◌, ◌≤◌, ◌<◌, min}
use mathlib.Core.Path.{◌≡◌, refl, sym, ap, ap₂, ◌∙◌}
use mathlib.Core.Bool.{true, cond, false≢true}
use mathlib.Core.List.{List, [], ◌∷◌}
use native.Mathlib.Nat.{zero-add, add-zero, suc-add, add_assoc}
use native.Mathlib.Decide.{dec_lt}
use native.Mathlib.Omega.{arith}
use borrow.Author.Tests.{lt-ltb, le-ltb, ltb-true}
use lib.Dec.{ltb}
use lib.ListN.{length, take, drop, length-drop}
use lib.Seq.{length-take-le}
use Rattle.form.specs.Records.{Filed}
use Rattle.filing.specs.Lists.{cut, total, rows_in, blocks_of, filed_list, behind, filed_from}
use Rattle.filing.specs.Written.{used_from}
use Rattle.filing.proofs.Parts.{used-count}
use Rattle.filing.proofs.Alike.{alike-part, used-alike, front-alike, back_alike}
use Rattle.clashes.specs.Stands.{index_from}

-- the used places, part by part
used-add : (f : Filed) (j a b : ℕ) → used_from f j (a + b) ≡ used_from f j a + used_from f (j + a) b
unfolding used_from
used-add f j zero b = rw (zero-add b, add-zero j) (sym (zero-add (used_from f j b)))
used-add f j (suc a) b =
    let e : j + suc a ≡ suc j + a = omega arith in
    rw (suc-add a b, e, used-add f (suc j) a b) (sym (add_assoc (cond (f.used j) 1 0) (used_from f (suc j) a) (used_from f (suc j + a) b)))

-- of one list: its rows are its first places
list-used : (k : ℕ) (r : List ℕ) (p : ℕ) → used_from (filed_list k r) 0 p ≡ min p (rows_in k (length r))
unfolding filed_list
list-used k r p = used-count (filed_list k r) p 0 (rows_in k (length r)) 0 (λ i h. refl) ∙ ap (min p) (omega arith)

module _ (f g : Filed) where
  used-front : (p : ℕ) → p ≤ f.places → used_from (behind f g) 0 p ≡ used_from f 0 p
  used-front p h = used-alike p (alike-part (front-alike f g) 0 p {i' = 0} {j' = 0} (omega arith) (omega arith) (omega arith))

  used_back : (q : ℕ) → used_from (behind f g) 0 (f.places + q) ≡ used_from f 0 f.places + used_from g 0 q
  used_back q =
      used-add (behind f g) 0 f.places q
      ∙ ap₂ (λ (x y : ℕ). x + y) (used-front f.places (omega arith)) (rw (zero-add f.places) (used-alike q (back_alike f g q)))

pub index-used : (k : ℕ) (ns area : List ℕ) (p : ℕ) → total ns ≤ length area → (filed_from k (cut ns area)).used p ≡ true
    → index_from k ns p ≡ used_from (filed_from k (cut ns area)) 0 p
unfolding index_from filed_from filed_list behind cut total
index-used k [] area p t u = absurd (false≢true u)
index-used k (n ∷ ns) area p t u = go (dec_lt p (12 * blocks_of k n)) (index-used (suc k) ns (drop n area) (p - 12 * blocks_of k n) (rw length-drop (omega arith)))
  where
    r : List ℕ
    r = take n area

    others : Filed
    others = filed_from (suc k) (cut ns (drop n area))

    long : length r ≡ n
    long = length-take-le n area (omega arith)

    whole : Filed
    whole = behind (filed_list k r) others

    there : (filed_list k r).places ≡ 12 * blocks_of k n
    there = ap (λ (m : ℕ). 12 * blocks_of k m) long

    go : Dec (p < 12 * blocks_of k n) → (others.used (p - 12 * blocks_of k n) ≡ true → index_from (suc k) ns (p - 12 * blocks_of k n) ≡ used_from others 0 (p - 12 * blocks_of k n))
        → cond (ltb p (12 * blocks_of k n)) p (rows_in k n + index_from (suc k) ns (p - 12 * blocks_of k n)) ≡ used_from whole 0 p
    go (yes a) more =
        let rows : p < rows_in k n = ltb-true p (rows_in k n) (rw (long, lt-ltb p (12 * blocks_of k n) a) at u) in
        rw (lt-ltb p (12 * blocks_of k n) a)
        (sym (used-front (filed_list k r) others p (omega (arith, there)) ∙ list-used k r p ∙ rw long (omega arith)))
    go (no a) more =
        let q : ℕ = p - 12 * blocks_of k n in
        let e : p ≡ (filed_list k r).places + q = omega (arith, there) in
        let first : used_from (filed_list k r) 0 (filed_list k r).places ≡ rows_in k n = list-used k r (filed_list k r).places ∙ rw (there, long) (omega arith) in
        rw (le-ltb p (12 * blocks_of k n) (omega arith))
        (ap (λ (x : ℕ). rows_in k n + x) (more (rw (long, le-ltb p (12 * blocks_of k n) (omega arith)) at u))
        ∙ sym (ap (used_from whole 0) e ∙ used_back (filed_list k r) others q ∙ ap (λ (x : ℕ). x + used_from others 0 q) first))
