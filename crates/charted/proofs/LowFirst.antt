-- A number's bytes as std tells them, the lowest first, are those of the definitions. Assumes nothing.
use Prim.Native.Nat.{ℕ, zero, suc, ◌*◌, ◌/◌, ◌%◌, ◌^◌}
use mathlib.Core.Path.{◌≡◌, refl, sym, ap, ap₂, ◌∙◌}
use mathlib.Core.List.{List, ◌∷◌}
use native.Mathlib.Nat.{div-div-eq-div-mul}
use native.Mathlib.Omega.{arith}
use Rattle.std.specs.Int.{bytes_low_first, to_le_bytes}
use Rattle.form.specs.Bytes.{little_endian}
use mir.Syntax.{w64}

-- so many bytes from a place on, of what is left of the number there
from_place : (k i n v : ℕ) → v ≡ n / 256 ^ suc i → bytes_low_first (suc i) k n ≡ little_endian k v
unfolding little_endian
from_place zero i n v e = refl
from_place (suc k) i n v e =
    let more : 256 ^ suc i * 256 ≡ 256 ^ suc (suc i) = omega arith in
    ap₂ (λ (x : ℕ) (xs : List ℕ). x ∷ xs) (ap (λ (x : ℕ). x % 256) (sym e))
    (from_place k (suc i) n (v / 256) (ap (λ (x : ℕ). x / 256) e ∙ div-div-eq-div-mul n (256 ^ suc i) 256 ∙ ap (λ (x : ℕ). n / x) more))

pub eight_bytes : (n : ℕ) → to_le_bytes w64 n ≡ little_endian 8 n
unfolding little_endian
eight_bytes n = ap (λ (xs : List ℕ). n % 256 ∷ xs) (from_place 7 0 n (n / 256) refl)
