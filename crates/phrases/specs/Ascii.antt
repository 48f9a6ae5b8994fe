-- Texts of ASCII as the bytes that they are: a name is written here as it is printed. Assumes nothing.
use Rattle.std.specs.Prelude.{ℕ, List, [], ◌∷◌}
use Prim.Native.String as S
use Prim.Native.String.{String}
use Prim.Native.Char.{code}

-- the bytes of a text
abbrev pub codes : String → List ℕ
codes S.[] = []
codes (S.◌∷◌ c s) = code c ∷ codes s
