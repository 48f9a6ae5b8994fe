-- The run has room for its next turn, and is as far as the input's bytes say; each turn that is not its last counts one return more, and there are at most five hundred. Assumes nothing.
use Rattle.std.proofs.Common.{◌≡◌, ◌-◌, length}
use Rattle.gathered.specs.Gathered.{count_of}
use Rattle.national.specs.Steps.{Ready}
use Rattle.nation.proofs.Running.{Along}
use Rattle.nation.proofs.run_input.Given as goal

abbrev pub invariant-loop-n : goal.invariant-loop-n
invariant-loop-n g l = record {
  bytes_long : length l.bytes ≡ length l.fn.bytes;
  out_long : length l.out ≡ length l.fn.out;
  ready : Ready l.run.tally l.run.at;
  along : Along (g.R.Read.remaining l.fn.input) (g.R.Read.remaining l.input) l.fn.out l.out l.run;
}

abbrev pub decreases-loop-n : goal.decreases-loop-n
decreases-loop-n g l = 501 - count_of l.run.tally
