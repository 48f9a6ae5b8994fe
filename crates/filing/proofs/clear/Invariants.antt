use Prim.Native.Nat.{◌+◌}
use mathlib.Core.List.{[], ◌∷◌}
use Rattle.filing.proofs.Stores.{Filling}
use Rattle.filing.proofs.clear.Given as goal

abbrev pub invariant-loop-i : goal.invariant-loop-i
invariant-loop-i l = Filling (λ k. 0 ∷ []) 0 l.n l.initial.out l.at l.out (l.at + l.i) l.i
