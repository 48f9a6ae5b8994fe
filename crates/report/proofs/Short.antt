-- A line has at most sixty bytes: a name of 18, a space, a sign, 39 digits and the line feed. Assumes nothing.
--     lines-short      of figures whose values are two words, whatever they are
--     refused-short    of a refusal
use Prim.Native.Nat.{ℕ, suc, ◌*◌, ◌^◌, ◌<◌, ◌≤◌}
use mathlib.Core.Path.{◌≡◌, refl, subst}
use mathlib.Core.Bool.{Bool, true, ◌&&◌}
use mathlib.Core.List.{List, [], ◌∷◌, flat_map}
use native.Mathlib.Nat.{le-pred_of_lt}
use native.Mathlib.Numerals.{bound}
use native.Mathlib.Omega.{arith}
use borrow.Author.Tests.{ltb-true}
use lib.Dec.{ltb, lit<}
use lib.IntN.{ℤ, pos, negsuc, nat_abs}
use lib.ListN.{length, length-append}
use Rattle.form.proofs.EachKind.{few_kinds}
use Rattle.form.proofs.Meaning.{small}
use Rattle.form.proofs.Tests.{and-true}
use Rattle.form.specs.Verdict.{verdict_of}
use Rattle.form.specs.Refusals.{Refused}
use Rattle.wide.specs.Numbers.{value}
use Rattle.wide.specs.Signs.{amount}
use Rattle.wide.specs.declared.Wide.{Wide}
use Rattle.wide.proofs.SignLaws.{size-amount}
use Rattle.decimal.specs.Digits.{decimal, marked}
use Rattle.decimal.proofs.DigitLaws.{decimal-length}
use Rattle.worksheets.specs.declared.sheets.Figures.{Figures}
use Rattle.listed.specs.Listed.{Figure, listed, TwoWords, AllTwoWords}
use Rattle.listed.proofs.Laws.{counted}
use Rattle.phrases.specs.Lines.{refused_line}
use Rattle.phrases.proofs.Room.{refused-length}
use Rattle.report.specs.Lines.{line_of, lines_of, lines_room}

-- two words have at most 39 digits
wide_short : (w : Wide) → w.lo < 2 ^ 64 → w.hi < 2 ^ 64 → value w < 10 ^ 39
unfolding value
wide_short w l h = grw (bound, le-pred_of_lt l, le-pred_of_lt h) (lit< tt)

marked-short : (z : ℤ) → length (decimal (nat_abs z)) ≤ 39 → length (marked z) ≤ 40
marked-short (pos n) h = omega arith
marked-short (negsuc n) h = omega arith

value-short : (f : Figure) → TwoWords f.value → length (marked (amount f.value)) ≤ 40
value-short f h = marked-short (amount f.value) (decimal-length 38 _ (subst (λ (n : ℕ). n < 10 ^ 39) (size-amount f.value) (wide_short f.value.size h.lo h.hi)))

-- names and values
abbrev short_names : List Figure → Bool
short_names [] = true
short_names (f ∷ fs) = ltb (length f.name) 19 && short_names fs

each_short : (fs : List Figure) → short_names fs ≡ true → AllTwoWords fs → length (flat_map line_of fs) ≤ 60 * length fs
unfolding flat_map
each_short [] e h = omega arith
each_short (f ∷ fs) e h =
    let b = and-true (ltb (length f.name) 19) (short_names fs) e in
    let n = ltb-true (length f.name) 19 b.0 in
    simp length-append (omega (arith, n, value-short f (h 0 (omega arith)), each_short fs b.1 (λ i l. h (suc i) (omega arith))))

names_short : (f : Figures) → short_names (listed f) ≡ true
unfolding listed
names_short f = refl

pub lines-short : (f : Figures) → AllTwoWords (listed f) → length (lines_of f) ≤ lines_room
lines-short f h = omega (arith, each_short (listed f) (names_short f) h, counted f)

pub refused-short : (s : List ℕ) (n p : ℕ) → verdict_of s ≡ Refused n p → length (refused_line n p) ≤ lines_room
refused-short s n p e =
    let h = small s n p e in
    omega (arith, refused-length n p, decimal-length 1 n (omega arith), decimal-length 2 p (omega (arith, few_kinds)))
