-- The parts of the lines, one after the other, and how long the lines are. Assumes nothing.
--     as_listed, listed-length     a refusal's line; by_refused, the text of its verdict
--     as_stop, stop-length         a stop's line; as_blocks
use Prim.Native.Nat.{ℕ, ◌+◌}
use mathlib.Core.Path.{◌≡◌, refl, sym, ap, ◌∙◌}
use mathlib.Core.List.{List, [], ◌∷◌, ◌++◌, append-nil, append_assoc, flat_map}
use native.Mathlib.Nat.{add-zero}
use native.Mathlib.Omega.{arith}
use lib.IntN.{ℤ, pos}
use lib.ListN.{length, length-append}
use Rattle.decimal.specs.Digits.{decimal, WrittenAt}
use Rattle.phrases.specs.Ascii.{codes}
use Rattle.phrases.specs.Lines.{ended_by, refused_line}
use Rattle.phrases.proofs.LineTexts.{as_text}
use Rattle.form.specs.Refusals.{Refused, Verdict}
use Rattle.cutting.specs.declared.Stop.TheVariants.{Blocks}
use Rattle.national.specs.Lines.{Refusal, refusal_line, stop_line, stop_text}
use Rattle.national.specs.Nation.{refusal_by, refusals_text}

-- a word, a number with a space behind it, and the rest
spaced : (word rest : List ℕ) (n : ℕ) (z : ℤ) → z ≡ pos n → (word ++ ended_by 32 z) ++ rest ≡ word ++ (decimal n ++ 32 ∷ rest)
spaced word rest n z e =
    append_assoc word (ended_by 32 z) rest
    ∙ ap (λ (x : ℤ). word ++ (ended_by 32 x ++ rest)) e
    ∙ ap (λ (x : List ℕ). word ++ x) (append_assoc (decimal n) (32 ∷ []) rest)

pub as_listed : (i n p : ℕ) (z : ℤ) {d e : List ℕ} {j k : ℕ} → z ≡ pos i → WrittenAt ((codes "return " ++ ended_by 32 z) ++ refused_line n p) d e j k
    → WrittenAt (refusal_line (record { position = i; number = n; place = p })) d e j k
unfolding refusal_line
as_listed i n p z e w = as_text (spaced (codes "return ") (refused_line n p) i z e) w

pub listed-length : (i n p : ℕ) → length (refusal_line (record { position = i; number = n; place = p })) ≡ 8 + length (decimal i) + length (refused_line n p)
unfolding refusal_line
listed-length i n p = simp length-append (omega arith)

one_refusal : (r : Refusal) → refusal_line r ≡ refusals_text (r ∷ [])
unfolding flat_map
one_refusal r = sym (append-nil (refusal_line r))

pub by_refused : (i : ℕ) {v : Verdict} {n p : ℕ} → v ≡ Refused n p → refusal_line (record { position = i; number = n; place = p }) ≡ refusals_text (refusal_by i v)
by_refused i e = one_refusal _ ∙ sym (ap (λ (x : Verdict). refusals_text (refusal_by i x)) e)

pub as_stop : (i : ℕ) (why : List ℕ) (z : ℤ) {d e : List ℕ} {j k : ℕ} → z ≡ pos i → WrittenAt ((codes "stopped " ++ ended_by 32 z) ++ why) d e j k
    → WrittenAt (stop_line i why) d e j k
as_stop i why z e w = as_text (spaced (codes "stopped ") why i z e) w

pub stop-length : (i : ℕ) (why : List ℕ) → length (stop_line i why) ≡ 9 + length (decimal i) + length why
stop-length i why = simp length-append (omega arith)

pub as_blocks : (i n : ℕ) (z : ℤ) {d e : List ℕ} {j k : ℕ} → z ≡ pos n → WrittenAt (stop_line i (codes "blocks ") ++ ended_by 10 z) d e j k → WrittenAt (stop_text i (Blocks n)) d e j k
unfolding stop_text
as_blocks i n z e w = as_text (ap (λ (x : ℤ). stop_line i (codes "blocks ") ++ ended_by 10 x) e ∙ ap (λ (x : List ℕ). codes "stopped " ++ x) (append_assoc (decimal i) (32 ∷ codes "blocks ") (ended_by 10 (pos n)))) w

pub blocks-length : (i n : ℕ) → length (stop_text i (Blocks n)) ≡ length (stop_line i (codes "blocks ")) + (length (decimal n) + 1)
unfolding stop_text
blocks-length i n = simp length-append (omega arith)

-- nothing written
pub written_none : (d : List ℕ) (i : ℕ) → WrittenAt [] d d i i
written_none d i = record { room = refl; place = sym (add-zero i) }
