-- A run begins with room for its first turn, each turn leaves room for the next, and the last comes to the end of the input's bytes. Assumes nothing.
use Rattle.std.proofs.Common.{◌∙◌, refl}
use Rattle.national.proofs.Streaming.{ready_begin, ready-after}
use Rattle.nation.proofs.Running.{along_first, along_next, along_end}
use Rattle.nation.proofs.run_input.Goals as goal

pub loop-n-init : goal.loop-n-init
loop-n-init g c =
    let b = c.begin-run.ensures in
    record { bytes_long = refl; out_long = refl; ready = ready_begin b.0 b.1; along = along_first _ _ _ b.0 b.1 }

pub loop-n-preserved : goal.loop-n-preserved
loop-n-preserved g c =
    let l = c.loop-n in
    let u = l.invariant in
    record {
      bytes_long = c.fill.auto.bytes ∙ u.bytes_long;
      out_long = c.settle.auto.out ∙ u.out_long;
      ready = ready-after l.run _ _ _ c.in-Ok.next u.ready c.in-Ok.ensures;
      along = along_next _ _ _ _ _ _ _ l.run c.in-Ok.next u.along u.ready c.in_ok-n.ensures.wanted c.in-Ok.ensures;
    }

pub returns-in-Err-clause-ends : goal.returns-in-Err-clause-ends
returns-in-Err-clause-ends g c =
    let l = c.loop-n in
    let u = l.invariant in
    along_end _ _ _ _ _ _ _ l.run c.in-Err.stop u.along u.ready c.in_ok-n.ensures.wanted c.in-Err.ensures.0 c.in-Err.ensures.1
