use borrow.Author.Rules.{rules}
use Rattle.report.specs.Lines.{printed}
use Rattle.report.proofs.lines.Goals as goal

pub put_text-requires-clause-writes : goal.put_text-requires-clause-writes
put_text-requires-clause-writes c =
    (printed c.args.bytes.now, record { may_call = λ room h p e. search rules; written = λ before after next h r. search rules })

pub returns : goal.returns
returns c =
    let said = c.put_text.ensures (printed c.args.bytes.now) (record { may_call = λ room h p e. search rules; written = λ before after next h r. search rules }) in
    record { value = said.value; room_after = said.room; bytes_len_bound = said.short }
