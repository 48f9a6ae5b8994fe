-- Numbers as decimal text in ASCII. Assumes nothing.
use Rattle.std.specs.Prelude.{◌≡◌, Bool, true, false, List, [], ◌∷◌, ◌++◌, ℕ, zero, suc, ◌+◌, ◌/◌, ◌%◌, eqb, ℤ, pos, negsuc, length}
use Rattle.std.proofs.lemmas.List.Edits.{sets}

-- the last digit of n
abbrev pub digit_of : ℕ → ℕ
digit_of n = 48 + n % 10

-- the digits of n, in at most k steps: none where nothing is left, else those of n / 10 and the last
unfoldable pub digits : ℕ → Bool → ℕ → List ℕ
digits zero none n = []
digits (suc k) true n = []
digits (suc k) false n = digits k (eqb (n / 10) 0) (n / 10) ++ digit_of n ∷ []

-- n with no zeros in front, and 0 as one zero: suc n steps are always enough
abbrev pub decimal : ℕ → List ℕ
decimal n = digits (suc n) false n

-- the last k digits of n, zeros in front among them
unfoldable pub padded : ℕ → ℕ → List ℕ
padded zero n = []
padded (suc k) n = padded k (n / 10) ++ digit_of n ∷ []

-- a minus sign below zero, and else nothing
abbrev pub sign_text : Bool → List ℕ
sign_text true = 45 ∷ []
sign_text false = []

-- z, with a minus sign in front only below zero
abbrev pub marked : ℤ → List ℕ
marked (pos n) = decimal n
marked (negsuc n) = 45 ∷ decimal (suc n)

-- the room `after` is the room `before` with the text at a place, and the next place follows the text
pub record WrittenAt (text before after : List ℕ) (at next : ℕ) : Type 0 where
  pub room : after ≡ sets before at text
  pub place : next ≡ at + length text
