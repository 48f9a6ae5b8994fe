-- Worked examples: the definitions compute, with literal names and values that are not known. Assumes nothing.
use Rattle.std.specs.Prelude.{ℕ, ◌≡◌, refl, pos}
use mathlib.Core.List.{[], ◌∷◌}
use Rattle.phrases.specs.Ascii.{codes}
use Rattle.phrases.specs.Lines.{number_line, lines_text, filled_in}
use Rattle.phrases.specs.Words.{up_to_space, start_of, word_at}

-- a name is its bytes
bytes_are : codes "id N/C" ≡ 105 ∷ 100 ∷ 32 ∷ 78 ∷ 47 ∷ 67 ∷ []
bytes_are = refl

-- "block 7" and "place 300", for any two numbers in place of these
two_lines : (m n : ℕ) → filled_in (codes "block place ") (pos m ∷ pos n ∷ []) ≡ lines_text (number_line (codes "block") m ∷ number_line (codes "place") n ∷ [])
unfolding filled_in lines_text
two_lines m n = refl

-- of "ab c " word 0 is "ab", word 1 is "c", and there is no word 2
words_are : (word_at 0 (codes "ab c ") ≡ codes "ab") × (word_at 1 (codes "ab c ") ≡ codes "c") × (word_at 2 (codes "ab c ") ≡ [])
unfolding up_to_space start_of
words_are = (refl, refl, refl)
