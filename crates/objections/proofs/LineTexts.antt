-- The texts that the code puts part by part, and the lines that they are. Assumes nothing.
--     fault-fits     a fault's word has at most 8 bytes
--     fault-text     the first line of a fault, part by part
--     word-text      a line with a word behind other lines; nothing_put, no lines
--     packed_line    the line of a text that packs
--     refused-fits   how long the first line of a refusal is; number_fits, a number
--     edition_told, rows_told            what is told of lists that 10 refuses, by the place
use Prim.Native.Nat.{ℕ, ◌*◌, ◌^◌, ◌≤◌, ◌<◌}
use mathlib.Core.Path.{◌≡◌, refl, sym, ap, ◌∙◌}
use mathlib.Core.List.{List, [], ◌∷◌, ◌++◌, append_assoc}
use native.Mathlib.Nat.{add-zero}
use native.Mathlib.Omega.{arith}
use borrow.Author.Tests.{eq-eqb, ne_eqb}
use lib.ListN.{length}
use lib.IntN.{ℤ, pos}
use Rattle.decimal.specs.Digits.{decimal, WrittenAt}
use Rattle.decimal.proofs.DigitLaws.{decimal-length}
use Rattle.heads.specs.Heads.{fault_number}
use Rattle.heads.specs.declared.TextFault.{TextFault}
use Rattle.phrases.specs.Ascii.{codes}
use Rattle.phrases.specs.Lines.{Line, ended_by, line, refused_line, number_line, lines_text, spaces, filled_in, unsigned}
use Rattle.phrases.proofs.LineTexts.{as_text, text_append, one_text}
use Rattle.phrases.proofs.Room.{refused-length}
use Rattle.naming.specs.RowLines.{word_line}
use Rattle.naming.proofs.Names.{all_short, short_in}
use Rattle.objections.specs.Objections.{fault_words, fault_word, fault_line, found_lines, list_lines}

pub fault-fits : (n : ℕ) → length (fault_word n) ≤ 8
unfolding all_short
fault-fits n = short_in 8 ([] ∷ fault_words) refl n

parts : (a d w t : List ℕ) → ((a ++ (d ++ 32 ∷ [])) ++ w) ++ t ≡ a ++ (d ++ 32 ∷ (w ++ t))
parts a d w t =
    append_assoc (a ++ (d ++ 32 ∷ [])) w t
    ∙ append_assoc a (d ++ 32 ∷ []) (w ++ t)
    ∙ ap (λ (x : List ℕ). a ++ x) (append_assoc d (32 ∷ []) (w ++ t))

pub fault-text : (f : TextFault) {n : ℕ} {z : ℤ} → z ≡ pos f.line → n ≡ fault_number f.fault
    → ((codes "refused line " ++ ended_by 32 z) ++ fault_word n) ++ 10 ∷ [] ≡ fault_line f
fault-text f {n} e k =
    ap (λ (y : ℤ). ((codes "refused line " ++ ended_by 32 y) ++ fault_word n) ++ 10 ∷ []) e
    ∙ parts (codes "refused line ") (decimal f.line) (fault_word n) (10 ∷ [])
    ∙ ap (λ (m : ℕ). codes "refused line " ++ (decimal f.line ++ 32 ∷ (fault_word m ++ 10 ∷ []))) k

pub word-text : (xs : List Line) (name word : List ℕ) → ((lines_text xs ++ (name ++ 32 ∷ [])) ++ word) ++ 10 ∷ [] ≡ lines_text (xs ++ (word_line name word ∷ []))
unfolding lines_text
word-text xs name word =
    append_assoc (lines_text xs ++ (name ++ 32 ∷ [])) word (10 ∷ [])
    ∙ append_assoc (lines_text xs) (name ++ 32 ∷ []) (word ++ 10 ∷ [])
    ∙ ap (λ (x : List ℕ). lines_text xs ++ x) (append_assoc name (32 ∷ []) (word ++ 10 ∷ []))
    ∙ sym (text_append xs (word_line name word ∷ []))

pub nothing_put : (d : List ℕ) (at : ℕ) (xs : List Line) → [] ≡ xs → WrittenAt (lines_text xs) d d at at
unfolding lines_text
nothing_put d at xs e = as_text (ap lines_text e) (record { room = refl; place = sym (add-zero at) })

pub packed_line : {n m : ℕ} → n ≡ m → filled_in (codes "packed ") (unsigned (512 * n ∷ [])) ≡ line (codes "packed") (pos (512 * m))
unfolding lines_text spaces
packed_line {n} {m} e = one_text (codes "packed") (512 * n) refl ∙ ap (λ (k : ℕ). line (codes "packed") (pos (512 * k))) e

pub number_fits : (n : ℕ) → n < 2 ^ 32 → length (decimal n) ≤ 10
number_fits n h = decimal-length 9 n (omega arith)

pub refused-fits : (n p : ℕ) → n < 2 ^ 8 → p < 2 ^ 32 → length (refused_line n p) ≤ 23
refused-fits n p h k = omega (arith, refused-length n p, decimal-length 2 n (omega arith), number_fits p k)

module _ (edition : ℕ) (lengths : List ℕ) (p : ℕ) where
  pub edition_told : p ≡ 0 → number_line (codes "edition") edition ∷ [] ≡ list_lines edition lengths p
  edition_told e = rw (eq-eqb p 0 e) refl

  pub rows_told : (p ≡ 0 → ⊥) → found_lines lengths p ≡ list_lines edition lengths p
  rows_told n = rw (ne_eqb p 0 n) refl
