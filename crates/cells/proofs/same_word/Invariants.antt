use Prim.Native.Nat.{◌≤◌}
use mathlib.Core.Path.{◌≡◌}
use lib.ListN.{length, drop}
use Rattle.cells.specs.Cells.{same_word}
use Rattle.cells.proofs.same_word.Given as goal

-- Byte by byte, of two words of one length. Assumes nothing.
abbrev pub invariant-loop-k : goal.invariant-loop-k
invariant-loop-k l = (l.k ≤ length l.word) × (same_word (drop l.k l.word) (drop l.k l.field) ≡ same_word l.word l.field)
