use Prim.Native.Nat.{◌≤◌}
use mathlib.Core.Path.{◌≡◌}
use lib.ListN.{length, drop}
use Rattle.form.specs.Ruling.{ruling}
use Rattle.form.specs.Records.{record_rules, record_numbers, by_number}
use Rattle.filing.specs.Lists.{cut, filed_lists}
use Rattle.lists.proofs.rule_records.Given as goal

abbrev pub invariant-loop-i : goal.invariant-loop-i
invariant-loop-i l =
    let f = filed_lists (cut l.lengths l.area) in
    (l.i ≤ length record_numbers) × (ruling (record_rules l.edition f) ≡ ruling (by_number l.edition f (drop l.i record_numbers)))
