-- Parts of any lengths laid one after the other. Assumes nothing.
--     turn_next     one part more; length-next, how long they are; part_in, the next has its place in the whole
use Prim.Native.Nat.{ℕ, suc, ◌+◌, ◌-◌, ◌≤◌, ◌<◌}
use mathlib.Core.Path.{◌≡◌, ap, ◌∙◌}
use mathlib.Core.List.{List, ◌++◌, append-nil}
use native.Mathlib.Omega.{arith}
use lib.ListN.{length, length-append}
use Rattle.filing.specs.Written.{in_turn}
use Rattle.filing.proofs.Alike.{turn_add}

pub turn_next : (f : ℕ → List ℕ) (k : ℕ) → in_turn f 1 (k + 1) ≡ in_turn f 1 k ++ f (suc k)
unfolding in_turn
turn_next f k =
    let e : 1 + k ≡ suc k = omega arith in
    turn_add f 1 k 1 ∙ rw e (ap (λ (x : List ℕ). in_turn f 1 k ++ x) (append-nil (f (suc k))))

pub length-next : (f : ℕ → List ℕ) (k : ℕ) → length (in_turn f 1 (k + 1)) ≡ length (in_turn f 1 k) + length (f (suc k))
length-next f k = ap length (turn_next f k) ∙ length-append (in_turn f 1 k) (f (suc k))

pub length_part : (f : ℕ → List ℕ) (j k : ℕ) → j ≤ k → length (in_turn f 1 j) ≤ length (in_turn f 1 k)
length_part f j k h =
    let e : j + (k - j) ≡ k = omega arith in
    omega (arith, rw (e, length-append) at (ap length (turn_add f 1 j (k - j))))

-- the next part has its place in the whole
pub part_in : (f : ℕ → List ℕ) (k n : ℕ) → k < n → length (in_turn f 1 k) + length (f (suc k)) ≤ length (in_turn f 1 n)
part_in f k n h = omega (arith, length-next f k, length_part f (k + 1) n (omega arith))
