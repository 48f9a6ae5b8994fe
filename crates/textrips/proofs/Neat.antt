-- Texts of neat bytes: no blank, no separator, no quote, no `#` and no line end. What `unpack` prints between commas is neat, so it is read as it was printed. Assumes nothing.
--     neat_append     two neat texts one behind the other; neat-digits: digits are neat
--     neat-plain      a neat text is a field that comes back; neat-whole: and has no line end
use Prim.Native.Nat.{ℕ, ◌<◌, ◌≤◌}
use mathlib.Core.Path.{◌≡◌, refl, sym, ap, ap₂, ◌∙◌}
use mathlib.Core.Bool.{Bool, true, false, cond, not, ◌&&◌}
use mathlib.Core.List.{List, [], ◌∷◌, ◌++◌}
use native.Mathlib.Omega.{arith}
use borrow.Author.Tests.{leb-true, ltb-true, lt-ltb, ne_eqb, not-true}
use lib.Dec.{ltb, leb, eqb}
use lib.ListN.{length}
use Rattle.form.proofs.Tests.{and-true}
use Rattle.cells.specs.Lines.{has, last_of}
use Rattle.cells.specs.Cells.{blank_in, is_filler}
use Rattle.cells.proofs.Cleaning.{clean-kept}
use Rattle.cells.proofs.FieldLaws.{Plain}
use Rattle.numerals.specs.Numerals.{is_digit, digits_in, AllDigits}

-- above `#`, and neither a comma nor a semicolon
unfoldable pub is_neat : ℕ → Bool
is_neat b = ltb 35 b && (not (eqb b 44) && not (eqb b 59))

unfoldable pub neat : List ℕ → Bool
neat [] = true
neat (b ∷ l) = is_neat b && neat l

-- what it says of a byte
above : (b : ℕ) → is_neat b ≡ true → 35 < b
unfolding is_neat
above b e = ltb-true 35 b (and-true (ltb 35 b) (not (eqb b 44) && not (eqb b 59)) e).0

no_comma : (b : ℕ) → is_neat b ≡ true → eqb b 44 ≡ false
unfolding is_neat
no_comma b e = not-true (eqb b 44) (and-true (not (eqb b 44)) (not (eqb b 59)) (and-true (ltb 35 b) (not (eqb b 44) && not (eqb b 59)) e).1).0

no_blank : (b : ℕ) → is_neat b ≡ true → blank_in 44 b ≡ false
unfolding blank_in
no_blank b e =
    let h = above b e in
    rw (ne_eqb b 32 (λ q. absurd (omega arith)), ne_eqb b 9 (λ q. absurd (omega arith))) refl

first-neat : (b : ℕ) (l : List ℕ) → neat (b ∷ l) ≡ true → (is_neat b ≡ true) × (neat l ≡ true)
unfolding neat
first-neat b l e = and-true (is_neat b) (neat l) e

pub neat_append : (x y : List ℕ) → neat x ≡ true → neat y ≡ true → neat (x ++ y) ≡ true
unfolding neat
neat_append [] y a b = b
neat_append (c ∷ x) y a b = let f = first-neat c x a in ap₂ ◌&&◌ f.0 (neat_append x y f.1 b)

last-neat : (b : ℕ) (l : List ℕ) → neat (b ∷ l) ≡ true → is_neat (last_of (b ∷ l)) ≡ true
unfolding last_of
last-neat b [] e = (first-neat b [] e).0
last-neat b (c ∷ l) e = last-neat c l (first-neat b (c ∷ l) e).1

-- no byte that is not neat stands in it
none_of : (c : ℕ) → ((b : ℕ) → is_neat b ≡ true → eqb b c ≡ false) → (l : List ℕ) → neat l ≡ true → has c l ≡ false
unfolding has
none_of c other [] e = refl
none_of c other (b ∷ l) e = let f = first-neat b l e in rw (other b f.0) (none_of c other l f.1)

pub no_commas : (l : List ℕ) → neat l ≡ true → has 44 l ≡ false
no_commas = none_of 44 no_comma

pub neat-plain : (l : List ℕ) → neat l ≡ true → 0 < length l → Plain 44 l
neat-plain [] e some = absurd (omega arith)
neat-plain (b ∷ l) e some =
    let f = (first-neat b l e).0 in
    let h = above b f in
    record {
      whole = no_commas (b ∷ l) e;
      clean = clean-kept 44 (b ∷ l) (no_blank b f) (no_blank (last_of (b ∷ l)) (last-neat b l e)) (λ q. absurd (omega arith));
      some = some;
    }

-- ---- digits

digit_neat : (b : ℕ) → is_digit b ≡ true → is_neat b ≡ true
unfolding is_digit is_neat
digit_neat b e =
    let d = and-true (leb 48 b) (leb b 57) e in
    let low = leb-true 48 b d.0 in
    let high = leb-true b 57 d.1 in
    rw (lt-ltb 35 b (omega arith), ne_eqb b 44 (λ q. absurd (omega arith)), ne_eqb b 59 (λ q. absurd (omega arith))) refl

digits_in_lem : (l : List ℕ) → neat (digits_in l) ≡ true
unfolding digits_in neat
digits_in_lem [] = refl
digits_in_lem (b ∷ l) = by (is_digit b) refl (digits_in_lem l)
  where
    by : (t : Bool) → is_digit b ≡ t → neat (digits_in l) ≡ true → neat (cond t (b ∷ digits_in l) []) ≡ true
    by true e more = ap₂ ◌&&◌ (digit_neat b e) more
    by false e more = refl

pub neat-digits : (l : List ℕ) → AllDigits l → neat l ≡ true
neat-digits l all = ap neat (sym all) ∙ digits_in_lem l

-- ---- what a line that begins with a neat byte is not

pub no_filler : (b : ℕ) → is_neat b ≡ true → is_filler b ≡ false
unfolding is_filler is_neat
no_filler b e =
    let h = above b e in
    let n = and-true (not (eqb b 44)) (not (eqb b 59)) (and-true (ltb 35 b) (not (eqb b 44) && not (eqb b 59)) e).1 in
    rw (not-true (eqb b 44) n.0, not-true (eqb b 59) n.1, ne_eqb b 9 (λ q. absurd (omega arith)), ne_eqb b 32 (λ q. absurd (omega arith))) refl

pub no_note : (b : ℕ) → is_neat b ≡ true → (blank_in 44 b ≡ false) × (eqb b 35 ≡ false) × (eqb b 34 ≡ false)
no_note b e = let h = above b e in (no_blank b e, ne_eqb b 35 (λ q. absurd (omega arith)), ne_eqb b 34 (λ q. absurd (omega arith)))

-- no line end stands in a neat text, nor a CR
pub no_byte : (c : ℕ) → c ≤ 35 → (l : List ℕ) → neat l ≡ true → has c l ≡ false
no_byte c h = none_of c (λ b e. let g = above b e in ne_eqb b c (λ q. absurd (omega arith)))
