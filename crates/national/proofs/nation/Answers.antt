use borrow.Author.Rules.{rules}
use native.Mathlib.Omega.{arith}
use Rattle.national.specs.Nation.{printed_nation}
use Rattle.national.proofs.nation.Goals as goal

pub put_text-requires-clause-writes : goal.put_text-requires-clause-writes
put_text-requires-clause-writes c =
    (printed_nation c.args.bytes.now, record { may_call = λ room h p e. search rules; written = λ before after next h r. search (rules, arith) })

pub returns : goal.returns
returns c =
    let said = c.put_text.ensures (printed_nation c.args.bytes.now) (record { may_call = λ room h p e. search rules; written = λ before after next h r. search (rules, arith) }) in
    record { value = said.value; room_after = said.room; bytes_len_bound = said.short }
