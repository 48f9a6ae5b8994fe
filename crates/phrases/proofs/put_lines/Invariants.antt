use mathlib.Core.Path.{◌≡◌}
use lib.ListN.{length}
use Rattle.phrases.specs.Lines.{amounts}
use Rattle.phrases.proofs.Filled.{Left}
use Rattle.phrases.proofs.put_lines.Given as goal

-- Byte by byte of the names, with the next value behind each space. Assumes nothing.
abbrev pub invariant-loop-b : goal.invariant-loop-b
invariant-loop-b l = (length l.out ≡ length l.initial.out) × Left (amounts l.values) l.names l.initial.out l.at l.b-index l.j l.to l.out
