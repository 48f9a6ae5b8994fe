use Prim.Native.Nat.{◌≤◌}
use mathlib.Core.Path.{◌≡◌}
use lib.ListN.{length, drop}
use Rattle.form.specs.Ruling.{ruling}
use Rattle.form.specs.Block.{edition}
use Rattle.form.specs.Records.{filed, record_rules, record_numbers, by_number}
use Rattle.judge.proofs.rule_records.Given as goal

abbrev pub invariant-loop-i : goal.invariant-loop-i
invariant-loop-i l = (l.i ≤ length record_numbers) × (ruling (record_rules (edition l.bytes 0) (filed l.bytes)) ≡ ruling (by_number (edition l.bytes 0) (filed l.bytes) (drop l.i record_numbers)))
