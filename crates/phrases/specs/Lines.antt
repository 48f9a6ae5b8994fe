-- Lines of text: "name, one space, value in decimal, with `-` only below zero. Every line ends with a line feed." Assumes nothing.
use Rattle.std.specs.Prelude.{ℕ, ◌+◌, ◌≤◌, cond, List, [], ◌∷◌, ◌++◌, map, get_or, drop, eqb, ℤ, pos}
use Rattle.wide.specs.Signs.{amount}
use Rattle.wide.specs.declared.signed.Signed.{Signed}
use Rattle.decimal.specs.Digits.{decimal, marked, WrittenAt}
use Rattle.phrases.specs.Ascii.{codes}

-- a value with a byte behind it, or the line feed, and a line, from its name in ASCII and its value
abbrev pub ended_by : ℕ → ℤ → List ℕ
ended_by b z = marked z ++ b ∷ []

abbrev pub ended : ℤ → List ℕ
ended z = ended_by 10 z

abbrev pub line : List ℕ → ℤ → List ℕ
line name z = name ++ 32 ∷ ended z

-- "A refusal prints one line: `refused`, number, place, with single spaces."
unfoldable pub refused_line : ℕ → ℕ → List ℕ
refused_line n p = line (codes "refused " ++ decimal n) (pos p)

-- lines as a name and a value, both as text: what a definition lists
pub record Line : Type 0 where
  pub name : List ℕ
  pub value : List ℕ

-- a name and a number in decimal
abbrev pub number_line : List ℕ → ℕ → Line
number_line name n = record { name = name; value = decimal n }

-- the lines one after the other, nested to the right so that literal names compute
unfoldable pub lines_text : List Line → List ℕ
lines_text [] = []
lines_text (l ∷ ls) = l.name ++ 32 ∷ (l.value ++ 10 ∷ lines_text ls)

-- how many spaces a text has
unfoldable pub spaces : List ℕ → ℕ
spaces [] = 0
spaces (b ∷ bs) = cond (eqb b 32) 1 0 + spaces bs

-- the names as they are, and after each space (32) the next value and a line feed (10): where no name has a space in it, lines.
-- Both ways on are bound first: what is bound waits, so that literal names compute in as many steps as they have bytes
unfoldable pub filled_in : List ℕ → List ℤ → List ℕ
filled_in [] vs = []
filled_in (b ∷ bs) vs =
    let valued = marked (get_or vs 0 (pos 0)) ++ 10 ∷ filled_in bs (drop 1 vs) in
    let on = filled_in bs vs in
    b ∷ cond (eqb b 32) valued on

-- the integers that some values stand for
abbrev pub amounts : List Signed → List ℤ
amounts values = map amount values

-- plain numbers as values
abbrev pub unsigned : List ℕ → List ℤ
unsigned numbers = map pos numbers

-- one plain number, or two, behind names that each have a space behind them
abbrev pub one_filled : List ℕ → ℕ → List ℕ
one_filled name n = filled_in name (unsigned (n ∷ []))

abbrev pub two_filled : List ℕ → ℕ → ℕ → List ℕ
two_filled names m n = filled_in names (unsigned (m ∷ n ∷ []))

-- a text at a place, of at most n bytes
abbrev pub WrittenIn : ℕ → List ℕ → List ℕ → List ℕ → ℕ → ℕ → Type 0
WrittenIn n text before after at next = WrittenAt text before after at next × (next ≤ at + n)
