-- A program that reads a return at a time: what it has read settles what comes next in the whole file. Assumes nothing.
--     wanted-head    the first six bytes say how many are wanted
--     wanted_said    by the size that their number of blocks comes to
--     wanted_is      they are the return's, where one comes next
--     as_read        what comes next in the wanted bytes is what comes next in the file
use Rattle.std.specs.Prelude.{None, Some, unwrap_or, Ok, Err}
use Prim.Native.Nat.{ℕ, ◌*◌, ◌<◌, ◌≤◌}
use mathlib.Core.Path.{◌≡◌, refl, sym, ap, ◌∙◌}
use mathlib.Core.Bool.{Bool, true, false, cond, ◌||◌}
use mathlib.Core.List.{List}
use native.Mathlib.Decide.{dec_lt}
use native.Mathlib.Omega.{arith}
use borrow.Author.Tests.{lt-ltb, le-ltb, ne_eqb, eqb-false, ltb-false}
use lib.Dec.{eqb, ltb}
use lib.ListN.{length, take}
use lib.Seq.{take_all, length-take-le, get_or-take}
use Rattle.form.specs.Block.{most_blocks, longest, blocks_said}
use Rattle.form.proofs.EachKind.{kinds_are}
use Rattle.form.proofs.Tests.{or_none}
use Rattle.form.proofs.Numbers.{number_2}
use Rattle.cutting.specs.Cutting.{most_returns, size_said, sized_by, next_of, end_of, next_after, wanted_by, wanted_of}
use Rattle.cutting.specs.declared.Stop.TheVariants.{Blocks}
use Rattle.cutting.proofs.Going.{size_of}

-- a number of blocks that a return has, or none has, and what is wanted of it
pub bad_wanted : (n : ℕ) → eqb n 0 || ltb most_blocks n ≡ true → wanted_by n ≡ 6
unfolding wanted_by
bad_wanted n e = rw e

pub good_wanted : (n : ℕ) → eqb n 0 || ltb most_blocks n ≡ false → wanted_by n ≡ 512 * n
unfolding wanted_by
good_wanted n e = rw e

pub wanted_said : (n : ℕ) → let w = unwrap_or (size_said n) 6 in (w ≡ wanted_by n) × (6 ≤ w) × (w ≤ longest)
unfolding wanted_by
wanted_said n = by (eqb n 0 || ltb most_blocks n) refl
  where
    by : (b : Bool) → eqb n 0 || ltb most_blocks n ≡ b → let w = unwrap_or (cond b None (Some (512 * n))) 6 in (w ≡ cond b 6 (512 * n)) × (6 ≤ w) × (w ≤ longest)
    by true e = (refl, omega arith, omega (arith, kinds_are))
    by false e =
        let f = or_none (eqb n 0) (ltb most_blocks n) e in
        (refl, omega (arith, eqb-false n 0 f.0), omega (arith, kinds_are, ltb-false most_blocks n f.1))

bad_sized : (n l : ℕ) → eqb n 0 || ltb most_blocks n ≡ true → sized_by n l ≡ Err (Blocks n)
unfolding sized_by
bad_sized n l e = rw e

said_taken : (w : ℕ) (s : List ℕ) → 6 ≤ w → blocks_said (take w s) 0 ≡ blocks_said s 0
said_taken w s h = number_2 (take w s) 4 ∙ rw (get_or-take w s 4 0 (omega arith), get_or-take w s 5 0 (omega arith)) (sym (number_2 s 4))

module _ (s : List ℕ) where
  pub few_wanted : length s < 6 → wanted_of s ≡ 6
  unfolding wanted_of
  few_wanted h = rw (lt-ltb (length s) 6 h)

  pub six-wanted : 6 ≤ length s → wanted_of s ≡ wanted_by (blocks_said s 0)
  unfolding wanted_of
  six-wanted h = rw (le-ltb (length s) 6 h)

  next-six : 6 ≤ length s → next_of s ≡ sized_by (blocks_said s 0) (length s)
  unfolding next_of
  next-six h = let z : length s ≡ 0 → ⊥ = λ e. omega arith in rw (ne_eqb (length s) 0 z, le-ltb (length s) 6 h)

pub wanted-head : (s : List ℕ) → 6 ≤ length s → wanted_of (take 6 s) ≡ wanted_of s
wanted-head s h =
    let l = length-take-le 6 s h in
    six-wanted (take 6 s) (omega arith) ∙ ap wanted_by (said_taken 6 s (omega arith)) ∙ sym (six-wanted s h)

-- as many bytes as are wanted
sized-wanted : (n l : ℕ) (b : Bool) → eqb n 0 || ltb most_blocks n ≡ b → wanted_by n ≤ l → sized_by n (wanted_by n) ≡ sized_by n l
unfolding sized_by
sized-wanted n l true e h = rw e
sized-wanted n l false e h =
    let w = good_wanted n e in
    rw (e, w, le-ltb (512 * n) (512 * n) (omega arith), le-ltb l (512 * n) (omega arith))

six_least : (n : ℕ) (b : Bool) → eqb n 0 || ltb most_blocks n ≡ b → 6 ≤ wanted_by n
six_least n true e = omega (arith, bad_wanted n e)
six_least n false e = omega (arith, good_wanted n e, eqb-false n 0 (or_none (eqb n 0) (ltb most_blocks n) e).0)

module _ (s : List ℕ) where
  part-read : (w : ℕ) → 6 ≤ length s → w ≡ wanted_by (blocks_said s 0) → w ≤ length s → 6 ≤ w → (next_of (take w s) ≡ next_of s) × (end_of (take w s) ≡ end_of s)
  unfolding end_of
  part-read w h e l six =
      let n = length-take-le w s l in
      let m = blocks_said s 0 in
      let x : length (take w s) ≡ 0 → ⊥ = λ z. omega arith in
      let y : length s ≡ 0 → ⊥ = λ z. omega arith in (
        next-six (take w s) (omega arith)
            ∙ ap (λ (q : ℕ). sized_by q (length (take w s))) (said_taken w s six)
            ∙ ap (sized_by m) (n ∙ e)
            ∙ sized-wanted m (length s) _ refl (omega (arith, e))
            ∙ sym (next-six s h),
        rw (ne_eqb (length (take w s)) 0 x, ne_eqb (length s) 0 y),
      )

  both_read : (next_of (take (wanted_of s) s) ≡ next_of s) × (end_of (take (wanted_of s) s) ≡ end_of s)
  both_read = by (dec_lt (length s) 6) (dec_lt (length s) (wanted_of s))
    where
      all : length s ≤ wanted_of s → (next_of (take (wanted_of s) s) ≡ next_of s) × (end_of (take (wanted_of s) s) ≡ end_of s)
      all h = (ap next_of (take_all (wanted_of s) s h), ap end_of (take_all (wanted_of s) s h))

      by : Dec (length s < 6) → Dec (length s < wanted_of s) → (next_of (take (wanted_of s) s) ≡ next_of s) × (end_of (take (wanted_of s) s) ≡ end_of s)
      by (yes h) d = all (omega (arith, few_wanted s h))
      by (no h) (yes l) = all (omega arith)
      by (no h) (no l) =
          let e = six-wanted s (omega arith) in
          part-read (wanted_of s) (omega arith) e (omega arith) (omega (arith, e, six_least (blocks_said s 0) _ refl))

  pub as_read : (k : ℕ) → next_after k (take (wanted_of s) s) ≡ next_after k s
  as_read k = λ i. cond (ltb k most_returns) (both_read.0 i) (Err (both_read.1 i))

-- where a return comes next, it is what is wanted
wanted_by_lem : (s : List ℕ) (n : ℕ) (b : Bool) → eqb (blocks_said s 0) 0 || ltb most_blocks (blocks_said s 0) ≡ b → next_of s ≡ Ok n → wanted_by (blocks_said s 0) ≡ n
wanted_by_lem s n true e q =
    let z = size_of s n q in
    let m = blocks_said s 0 in
    let l : 6 ≤ length s = omega (arith, z.some, z.there) in
    let a : Err (Blocks m) ≡ Ok n = sym (bad_sized m (length s) e) ∙ sym (next-six s l) ∙ q in
    let x : ◌≡◌ {A = ℕ} 0 1 = cc in
    absurd (omega arith)
wanted_by_lem s n false e q = good_wanted (blocks_said s 0) e ∙ sym (size_of s n q).said

pub wanted_is : (s : List ℕ) (n : ℕ) → next_of s ≡ Ok n → wanted_of s ≡ n
wanted_is s n q =
    let z = size_of s n q in
    six-wanted s (omega (arith, z.some, z.there)) ∙ wanted_by_lem s n _ refl q
