use Prim.Native.Nat.{◌≤◌, ◌-◌}
use mathlib.Core.Path.{◌≡◌, refl}
use Rattle.form.proofs.Search.{first-zero, first_more, first_found}
use Rattle.faults.specs.Faults.{stray_byte}
use borrow.Author.Rules.{rules}
use Rattle.faults.proofs.first_stray.Goals as goal

pub loop-i-init : goal.loop-i-init
loop-i-init c = (search rules, first-zero _)

pub returns-then-zero_due-byte : goal.returns-then-zero_due-byte
returns-then-zero_due-byte c =
    let a = c.args in
    rw (first_found (stray_byte a.bytes.now a.b) c.loop-i.i 512 c.loop-i.invariant.1 (cc) (search rules), c.byte_at-byte.ensures.0) refl

pub loop-i-preserved : goal.loop-i-preserved
loop-i-preserved c = (search rules, first_more _ _ c.loop-i.invariant.1 cc)
