use borrow.Author.Rules.{rules}
use native.Mathlib.Omega.{arith}
use Rattle.explained.specs.Explained.{explained}
use Rattle.explained.proofs.explain_lines.Goals as goal

pub put_text-requires-clause-writes : goal.put_text-requires-clause-writes
put_text-requires-clause-writes c =
    (explained c.args.bytes.now, record { may_call = λ room h p e. search rules; written = λ before after next h r. search (rules, arith) })

pub returns : goal.returns
returns c =
    let said = c.put_text.ensures (explained c.args.bytes.now) (record { may_call = λ room h p e. search rules; written = λ before after next h r. search (rules, arith) }) in
    record { value = said.value; room_after = said.room; bytes_len_bound = said.short }
