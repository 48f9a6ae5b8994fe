-- The first line that `unpack` prints, read. Assumes nothing.
--     head_is         it says its edition, and that a comma separates; head-counts: it is not passed over
--     text_reads      a text whose lines are that one and those of some rows says the edition and the rows
use Prim.Native.Nat.{ℕ, ◌/◌, ◌≤◌}
use mathlib.Core.Path.{◌≡◌, refl, sym, ap, ◌∙◌}
use mathlib.Core.Bool.{false}
use mathlib.Core.List.{List, [], ◌∷◌, ◌++◌, flatten, map, append-nil}
use native.Mathlib.Omega.{arith}
use borrow.Author.Tests.{le-ltb}
use lib.ListN.{length, replicate}
use Rattle.std.specs.Prelude.{Some, Ok}
use Rattle.form.specs.Layout.{kinds}
use Rattle.decimal.specs.Digits.{decimal}
use Rattle.phrases.specs.Ascii.{codes}
use Rattle.filing.specs.Lists.{Lists}
use Rattle.cells.specs.Lines.{has, last_of, text_lines}
use Rattle.cells.specs.Cells.{blank_in, front_off, end_off, quotes_off, cell_at, found_in, is_filler, is_empty_line, begins_note, small, same_word, joined}
use Rattle.cells.proofs.FieldLaws.{Plain, cells-joined, found_joined}
use Rattle.numerals.specs.Numerals.{read_number}
use Rattle.numerals.proofs.Meaning.{reads_back}
use Rattle.numerals.specs.Written.{pointed}
use Rattle.heads.specs.Heads.{is_passed, edition_by, behind_edition, separator_at, separator_in, head_of}
use Rattle.texts.specs.Texts.{rows, nothing, lines_read, text_read}
use Rattle.unpacked.specs.Unpacked.{edition_line, lists_lines, lists_text}
use Rattle.textrips.proofs.Lines.{Each, Readable, lists-read}

comma_behind : (x : List ℕ) → separator_in (codes "edition," ++ x) ≡ Some 44
unfolding separator_in separator_at behind_edition front_off blank_in same_word small
comma_behind x = refl

pub head-counts : (e : ℕ) → is_passed 44 (edition_line e) ≡ false
unfolding is_empty_line is_filler begins_note front_off blank_in
head-counts e = refl

word-plain : Plain 44 (codes "edition")
unfolding has front_off end_off quotes_off blank_in last_of
word-plain = record { whole = refl; clean = refl; some = omega arith }

as_joined : (e : ℕ) → edition_line e ≡ joined 44 (codes "edition" ∷ decimal e ∷ [])
unfolding joined
as_joined e = refl

-- a number without decimals is its digits
edition-said : (e : ℕ) → e ≤ 4294967295 → read_number false 0 (decimal e) ≡ Ok e
unfolding pointed
edition-said e h = let q : e / 1 ≡ e = omega arith in ap (λ (n : ℕ). read_number false 0 (decimal n)) (sym q) ∙ ap (read_number false 0) (sym (append-nil (decimal (e / 1)))) ∙ reads_back false 0 e h

module _ (e : ℕ) (h : e ≤ 4294967295) (p : Plain 44 (decimal e)) where
  one_found : found_in 44 (edition_line e) ≡ 1
  one_found = ap (found_in 44) (as_joined e) ∙ found_joined 44 (codes "edition") (decimal e ∷ []) word-plain (p, tt)

  cell-said : cell_at 44 1 (edition_line e) ≡ decimal e
  cell-said = ap (cell_at 44 1) (as_joined e) ∙ cells-joined 44 (codes "edition") (decimal e ∷ []) 1 word-plain (p, tt)

  by_parts : (n : ℕ) (l : List ℕ) → separator_in l ≡ Some 44 → found_in 44 l ≡ 1 → read_number false 0 (cell_at 44 1 l) ≡ Ok e → head_of n l ≡ edition_by e 44
  unfolding head_of
  by_parts n l a b c = rw (a, b, c)

  pub head_is : (n : ℕ) → head_of n (edition_line e) ≡ edition_by e 44
  head_is n = by_parts n (edition_line e) (comma_behind (decimal e)) one_found (ap (read_number false 0) cell-said ∙ edition-said e h)

  -- the lines behind it, of all kinds from the first on
  lines-said : (l : Lists) → length l ≡ kinds → Each Readable 1 l → lines_read 0 (edition_line e ∷ lists_lines 1 l) ≡ rows e (map length l) (flatten l)
  unfolding lines_read
  lines-said l long r =
      rw (head-counts e, head_is 1)
      (lists-read e 1 l r nothing [] (omega arith) refl (ap (λ (k : ℕ). replicate k 0) (sym long)) 1)

  pub text_reads : (l : Lists) → length l ≡ kinds → Each Readable 1 l → text_lines (lists_text e l) ≡ edition_line e ∷ lists_lines 1 l
      → length (lists_text e l) ≤ 131072 → text_read (lists_text e l) ≡ rows e (map length l) (flatten l)
  unfolding text_read
  text_reads l long r lines short = rw (le-ltb 131072 (length (lists_text e l)) short) (ap (lines_read 0) lines ∙ lines-said l long r)
