-- Laws of the list of figures, and of what is made of it figure by figure. Assumes nothing.
use Prim.Native.Nat.{ℕ, zero, suc, ◌+◌, ◌*◌, ◌<◌}
use mathlib.Core.Path.{◌≡◌, refl, sym, ap, subst, ◌∙◌}
use mathlib.Core.List.{List, [], ◌∷◌, ◌++◌, append-nil, append_assoc, flat_map}
use native.Mathlib.Omega.{arith}
use native.Mathlib.Nat.{zero-add}
use native.Mathlib.Numerals.{add-one}
use lib.ListN.{length, set, take, drop, get_or, length-append}
use lib.Seq.{take-suc, take-length, drop-length, sets-eq}
use Rattle.decimal.specs.Digits.{WrittenAt}
use Rattle.decimal.proofs.DigitLaws.{written-more}
use Rattle.wide.specs.declared.signed.Signed.{Signed}
use Rattle.worksheets.specs.declared.sheets.Figures.{Figures}
use Rattle.listed.specs.Listed.{Figure, listed, figure_count, nothing, figure_at, TwoWords, AllTwoWords, values_of, three_in, numbers_in, figure_numbers, numbers_room}

-- every return has as many figures
pub counted : (f : Figures) → length (listed f) ≡ figure_count
unfolding listed
counted f = refl

value_at : (fs : List Figure) (i : ℕ) → i < length fs → get_or (values_of fs) i nothing ≡ (figure_at fs i).value
value_at [] i l = absurd (omega arith)
value_at (f ∷ fs) zero l = refl
value_at (f ∷ fs) (suc i) l = value_at fs i (omega arith)

-- what is made of each figure in turn, with one figure more
module _ (g : Figure → List ℕ) where
  flat_one : (fs : List Figure) (f : Figure) → flat_map g (fs ++ f ∷ []) ≡ flat_map g fs ++ g f
  unfolding flat_map
  flat_one [] f = append-nil (g f)
  flat_one (h ∷ fs) f = ap (λ (x : List ℕ). g h ++ x) (flat_one fs f) ∙ sym (append_assoc (g h) (flat_map g fs) (g f))

  pub flat-next : (fs : List Figure) (i : ℕ) → i < length fs → flat_map g (take (i + 1) fs) ≡ flat_map g (take i fs) ++ g (figure_at fs i)
  flat-next fs i h = ap (λ (k : ℕ). flat_map g (take k fs)) (add-one i) ∙ ap (flat_map g) (take-suc fs i _ h) ∙ flat_one (take i fs) (figure_at fs i)

-- three stores in a row
pub three_stores : (d : List ℕ) (at a b c : ℕ) (t : List ℕ) → a ∷ b ∷ c ∷ [] ≡ t → WrittenAt t d (set (set (set d at a) (at + 1) b) (at + 2) c) at (at + 3)
three_stores d at a b c t e =
    let i : at + 2 ≡ suc (suc at) = omega arith in
    rw (← e) (record { room = rw (add-one, i); place = refl })

-- three numbers a figure
pub numbers-length : (fs : List Figure) → length (flat_map numbers_in fs) ≡ 3 * length fs
unfolding flat_map
numbers-length [] = refl
numbers-length (f ∷ fs) = rw length-append (omega (arith, numbers-length fs))

-- one figure more, and all of them
pub one_more : (zs : List Signed) (fs : List Figure) (i : ℕ) {d e g : List ℕ} {at next : ℕ} → zs ≡ values_of fs → i < length fs
    → WrittenAt (flat_map numbers_in (take i fs)) d e 0 at → WrittenAt (three_in (get_or zs i nothing)) e g at next → WrittenAt (flat_map numbers_in (take (i + 1) fs)) d g 0 next
one_more zs fs i {d} {e} {g} {at} {next} q h v w =
    let z = ap (λ (x : List Signed). get_or x i nothing) q ∙ value_at fs i h in
    rw (flat-next numbers_in fs i) (written-more v (subst (λ (x : Signed). WrittenAt (three_in x) e g at next) z w))

pub all_of : (fs : List Figure) (i : ℕ) {d e : List ℕ} {at : ℕ} → i ≡ length fs → WrittenAt (flat_map numbers_in (take i fs)) d e 0 at → WrittenAt (flat_map numbers_in fs) d e 0 at
all_of fs i {d} {e} {at} q w = subst (λ (x : List Figure). WrittenAt (flat_map numbers_in x) d e 0 at) (ap (λ (k : ℕ). take k fs) q ∙ take-length fs) w

-- each figure has two words, one after the other
abbrev pub EachTwoWords : List Figure → Type 0
EachTwoWords [] = Unit {0}
EachTwoWords (f ∷ fs) = TwoWords f.value × EachTwoWords fs

pub all_two_words : (fs : List Figure) → EachTwoWords fs → AllTwoWords fs
all_two_words [] h i l = absurd (omega arith)
all_two_words (f ∷ fs) h zero l = h.0
all_two_words (f ∷ fs) h (suc i) l = all_two_words fs h.1 i (omega arith)

-- in room of as many numbers, they are all there is
pub full : (f : Figures) {d e : List ℕ} {r : ℕ} → length d ≡ numbers_room → WrittenAt (figure_numbers f) d e 0 r → e ≡ figure_numbers f
full f {d} h w =
    let t = figure_numbers f in
    let n : length t ≡ length d = omega (arith, numbers-length (listed f), counted f) in
    w.room
    ∙ sets-eq t d 0 (omega (arith, n))
    ∙ ap (λ (k : ℕ). t ++ drop k d) (zero-add (length t) ∙ n)
    ∙ ap (λ (x : List ℕ). t ++ x) (drop-length d)
    ∙ append-nil t
