-- "a line for each figure: name, one space, value in decimal, with `-` only below zero. Every line ends with a line feed."
use Rattle.std.specs.Prelude.{ℕ, ◌*◌}
use mathlib.Core.List.{List, [], ◌∷◌, ◌++◌, flat_map}
use Rattle.wide.specs.Signs.{amount}
use Rattle.phrases.specs.Lines.{line, refused_line}
use Rattle.listed.specs.Listed.{Figure, listed, figure_count}
use Rattle.worksheets.specs.Answers.{Outcome, worked, refusal, outcome_of}
use Rattle.worksheets.specs.declared.sheets.Figures.{Figures}

abbrev pub line_of : Figure → List ℕ
line_of f = line f.name (amount f.value)

-- the lines of all figures, and the part of them that is the same for every return: the names, each with its space
abbrev pub lines_of : Figures → List ℕ
lines_of f = flat_map line_of (listed f)

abbrev pub spaced : Figure → List ℕ
spaced f = f.name ++ 32 ∷ []

abbrev pub names_of : Figures → List ℕ
names_of f = flat_map spaced (listed f)

-- room that is always enough: sixty bytes a line (`report::text::write_lines` says so of every text)
abbrev pub lines_room : ℕ
lines_room = 60 * figure_count

-- what `sheets` prints: "A refusal prints one line: `refused`, number, place, with single spaces."
abbrev pub text_of : Outcome → List ℕ
text_of (worked f) = lines_of f
text_of (refusal n p) = refused_line n p

abbrev pub printed : List ℕ → List ℕ
printed s = text_of (outcome_of s)
