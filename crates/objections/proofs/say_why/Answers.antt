use borrow.Author.Rules.{rules}
use native.Mathlib.Omega.{arith}
use Rattle.objections.specs.Objections.{pack_why}
use Rattle.objections.proofs.say_why.Goals as goal

pub put_text-requires-clause-writes : goal.put_text-requires-clause-writes
put_text-requires-clause-writes c =
    (pack_why c.args.text.now, record { may_call = λ room h p e. search rules; written = λ before after next h r. search (rules, arith) })

pub returns : goal.returns
returns c =
    let said = c.put_text.ensures (pack_why c.args.text.now) (record { may_call = λ room h p e. search rules; written = λ before after next h r. search (rules, arith) }) in
    record { value = said.value; room_after = said.room; text_len_bound = said.short }
