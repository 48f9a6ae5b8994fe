use Prim.Native.Nat.{◌+◌, ◌*◌}
use Rattle.filing.specs.Lists.{filed_list}
use Rattle.filing.specs.Written.{block_of}
use Rattle.filing.proofs.Stores.{Filling}
use Rattle.filing.proofs.write_kind.Given as goal

abbrev pub invariant-loop-b : goal.invariant-loop-b
invariant-loop-b l = Filling (block_of l.edition (filed_list l.kind l.rows) l.start l.n) 0 l.blocks l.initial.out (512 * l.start) l.out (512 * (l.start + l.b)) l.b
