-- The faults of a text are those of the paper: numbers 1 to 10. Assumes nothing.
--     fault-known     whatever the fault is
use Prim.Native.Nat.{◌≤◌}
use lib.Dec.{lit≤}
use Rattle.numerals.specs.declared.NumberFault.TheVariants.{NoNumber, ManyDecimals, Large}
use Rattle.rowtext.specs.declared.FieldFault.TheVariants as Field
use Rattle.heads.specs.Heads.{fault_number}
use Rattle.heads.specs.declared.Fault.{Fault}
use Rattle.heads.specs.declared.Fault.TheVariants as F

pub fault-known : (f : Fault) → (1 ≤ fault_number f) × (fault_number f ≤ 10)
fault-known F.Long = (lit≤ tt, lit≤ tt)
fault-known F.Edition = (lit≤ tt, lit≤ tt)
fault-known F.Kind = (lit≤ tt, lit≤ tt)
fault-known F.Order = (lit≤ tt, lit≤ tt)
fault-known F.Rows = (lit≤ tt, lit≤ tt)
fault-known (F.Fields due found) = (lit≤ tt, lit≤ tt)
fault-known (F.Cell kind field Field.Unit) = (lit≤ tt, lit≤ tt)
fault-known (F.Cell kind field (Field.Number NoNumber)) = (lit≤ tt, lit≤ tt)
fault-known (F.Cell kind field (Field.Number ManyDecimals)) = (lit≤ tt, lit≤ tt)
fault-known (F.Cell kind field (Field.Number Large)) = (lit≤ tt, lit≤ tt)
