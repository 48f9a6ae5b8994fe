-- How long lines of numbers are, each number being of 64 bits. Assumes nothing.
--     filled-short     names and, for each space, at most twenty digits and a line feed
--     plain-short, plain-written   what `put_lines` asks and does with them
use Prim.Native.Nat.{ℕ, ◌+◌, ◌*◌, ◌^◌, ◌<◌, ◌≤◌}
use mathlib.Core.Path.{◌≡◌, refl, ap}
use mathlib.Core.Bool.{Bool, true, false, cond}
use mathlib.Core.List.{List, [], ◌∷◌, ◌++◌}
use native.Mathlib.Omega.{arith}
use lib.Dec.{eqb}
use lib.ListN.{length, length-append, get_or, drop}
use lib.IntN.{pos}
use Rattle.decimal.specs.Digits.{marked, WrittenAt}
use Rattle.decimal.proofs.DigitLaws.{decimal-length}
use Rattle.wide.specs.declared.signed.Signed.{Signed}
use Rattle.phrases.specs.Lines.{spaces, filled_in, amounts, unsigned, WrittenIn}
use Rattle.phrases.proofs.LineTexts.{as_text}

abbrev pub AllSmall : List ℕ → Type 0
AllSmall [] = Unit {0}
AllSmall (v ∷ vs) = (v < 2 ^ 64) × AllSmall vs

-- the first number, or 0 where there is none
first_short : (vs : List ℕ) → AllSmall vs → length (marked (get_or (unsigned vs) 0 (pos 0))) ≤ 20
first_short [] h = omega (arith, decimal-length 19 0 (omega arith))
first_short (v ∷ vs) h = omega (arith, decimal-length 19 v (omega (arith, h.0)))

rest-small : (vs : List ℕ) → AllSmall vs → AllSmall (drop 1 vs)
rest-small [] h = h
rest-small (v ∷ vs) h = h.1

rest_is : (vs : List ℕ) → drop 1 (unsigned vs) ≡ unsigned (drop 1 vs)
rest_is [] = refl
rest_is (v ∷ vs) = refl

pub filled-short : (names vs : List ℕ) → AllSmall vs → length (filled_in names (unsigned vs)) ≤ length names + 21 * spaces names
unfolding filled_in spaces
filled-short [] vs h = omega arith
filled-short (b ∷ names) vs h = by (eqb b 32) (filled-short names vs h) (filled-short names (drop 1 vs) (rest-small vs h))
  where
    by : (q : Bool) → length (filled_in names (unsigned vs)) ≤ length names + 21 * spaces names
        → length (filled_in names (unsigned (drop 1 vs))) ≤ length names + 21 * spaces names
        → length (b ∷ cond q (marked (get_or (unsigned vs) 0 (pos 0)) ++ 10 ∷ filled_in names (drop 1 (unsigned vs))) (filled_in names (unsigned vs)))
        ≤ length (b ∷ names) + 21 * (cond q 1 0 + spaces names)
    by true x y =
        let v = marked (get_or (unsigned vs) 0 (pos 0)) in
        rw (rest_is vs) (omega (arith, y, first_short vs h, length-append v (10 ∷ filled_in names (unsigned (drop 1 vs)))))
    by false x y = omega (arith, x)

-- what `put_lines` asks where the numbers are plain, and what it has then written
module _ (names : List ℕ) (values : List Signed) (ns : List ℕ) (q : amounts values ≡ unsigned ns) (h : AllSmall ns) where
  same : filled_in names (amounts values) ≡ filled_in names (unsigned ns)
  same = ap (filled_in names) q

  pub plain-short : length (filled_in names (amounts values)) ≤ length names + 21 * spaces names
  plain-short = omega (arith, filled-short names ns h, ap length same)

  pub plain-written : {d e : List ℕ} {i j : ℕ} (n : ℕ) → length names + 21 * spaces names ≤ n → WrittenAt (filled_in names (amounts values)) d e i j
      → WrittenIn n (filled_in names (unsigned ns)) d e i j
  plain-written n l w = (as_text same w, omega (arith, w.place, plain-short))
