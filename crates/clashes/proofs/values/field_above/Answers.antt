use Prim.Native.Nat.{◌-◌, ◌<◌}
use mathlib.Core.Path.{◌≡◌, ap}
use lib.ListN.{length}
use Rattle.form.specs.Layout.{numbers_of}
use Rattle.reasons.specs.Reasons.{limit_by}
use Rattle.clashes.proofs.Told.{seeking_found, seeking_more, seeking_all}
use native.Mathlib.Omega.{arith}
use Rattle.clashes.proofs.values.field_above.Goals as goal

pub returns-then-limit-value : goal.returns-then-limit-value
returns-then-limit-value c =
    ap (limit_by c.args.row) (seeking_found c.loop-i.invariant (let counted' : c.loop-i.i < numbers_of c.args.row.kind = omega arith in counted') c.requires.0 c.field-limit.ensures c.if-limit-value.true)

pub loop-i-preserved : goal.loop-i-preserved
loop-i-preserved c =
    seeking_more c.loop-i.invariant (let counted' : c.loop-i.i < numbers_of c.args.row.kind = omega arith in counted') c.requires.0 c.field-limit.ensures c.if-limit-value.false

pub returns : goal.returns
returns c =
    let all : c.loop-i.i ≡ length c.args.numbers.now = omega arith in
    rw (← all) (ap (limit_by c.args.row) (seeking_all c.loop-i.invariant (omega arith)))
