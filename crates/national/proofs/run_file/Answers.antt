use native.Mathlib.Omega.{arith}
use Rattle.std.proofs.Common.{rules, refl}
use Rattle.national.proofs.Turns.{setting_out, few, same_room, fits, roomy, further, arrived}
use Rattle.national.proofs.run_file.Goals as goal

pub loop-size-init : goal.loop-size-init
loop-size-init c = let b = c.begin-run.ensures in setting_out _ _ b.0 b.1

pub count_of-requires : goal.count_of-requires
count_of-requires c = few _ _ _ _ _ _ c.loop-size.invariant

pub overflow_add-end : goal.overflow_add-end
overflow_add-end c = let f = fits _ _ _ _ _ _ c.loop-size.invariant _ c.in-Ok.size c.count_of.ensures c.in-Ok.ensures in search rules

pub slice_bounds-take_return-end : goal.slice_bounds-take_return-end
slice_bounds-take_return-end c = let f = fits _ _ _ _ _ _ c.loop-size.invariant _ c.in-Ok.size c.count_of.ensures c.in-Ok.ensures in search rules

pub take_return-run-requires : goal.take_return-run-requires
take_return-run-requires c =
    let u = c.loop-size.invariant in
    let f = fits _ _ _ _ _ _ u _ c.in-Ok.size c.count_of.ensures c.in-Ok.ensures in
    (roomy _ _ _ _ _ _ u _ c.in-Ok.size c.count_of.ensures c.in-Ok.ensures, omega (arith, f.2, c.requires, same_room _ _ _ _ _ _ u))

pub loop-size-smaller : goal.loop-size-smaller
loop-size-smaller c = let f = fits _ _ _ _ _ _ c.loop-size.invariant _ c.in-Ok.size c.count_of.ensures c.in-Ok.ensures in omega arith

pub loop-size-preserved : goal.loop-size-preserved
loop-size-preserved c =
    let w = c.take_return-run.ensures in
    further _ _ _ _ _ _ c.loop-size.invariant _ c.in-Ok.size c.count_of.ensures c.in-Ok.ensures _ refl w.tally_value w.written_in

pub returns-in-Err : goal.returns-in-Err
returns-in-Err c = arrived _ _ _ _ _ _ c.loop-size.invariant _ c.in-Err.stop c.count_of.ensures c.in-Err.ensures
