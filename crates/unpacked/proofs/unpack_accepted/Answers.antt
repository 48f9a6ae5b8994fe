use mathlib.Core.Path.{sym, ap, ◌∙◌}
use mathlib.Core.List.{[], ◌∷◌}
use native.Mathlib.Omega.{arith}
use Prim.Native.Nat.{◌≤◌}
use borrow.Author.Rules.{rules}
use lib.ListN.{length}
use Rattle.std.specs.Prelude.{Err}
use Rattle.std.proofs.lemmas.Result.{err_from_is_err_and}
use Rattle.form.proofs.Order.{short_room, long_room}
use Rattle.standing.proofs.Accepted.{formed}
use Rattle.filing.proofs.Stores.{sets-front}
use Rattle.unpacked.specs.Unpacked.{unpacked_text}
use Rattle.unpacked.proofs.Outs.{ruling_put, size_put, unsized_out, put_out, done-small}
use Rattle.unpacked.proofs.unpack_accepted.Goals as goal

pub returns-in_err-room_for : goal.returns-in_err-room_for
returns-in_err-room_for c =
    let a = c.args in
    let short = short_room 1 (length a.size.now) c.room_for.ensures c.in_err-room_for.was in
    let p = err_from_is_err_and c.from_residual.result c.from_residual.ensures.1 in
    let said = unsized_out a.bytes.now a.room.now a.size.now a.counts c.requires short.0 in
    record { value = p.1 ∙ ap Err (p.2 ∙ short.1) ∙ said.0; room_after = said.1.0; size_after = said.1.1 }

pub put_text-requires-clause-writes : goal.put_text-requires-clause-writes
put_text-requires-clause-writes c =
    let standing = formed c.args.bytes.now c.args.counts c.requires in
    (unpacked_text c.args.bytes.now, record { may_call = λ room h p e. search (rules, standing); written = λ before after next h r. search (rules, arith) })

pub overflow_cast-size : goal.overflow_cast-size
overflow_cast-size c =
    let a = c.args in
    let standing = formed c.args.bytes.now c.args.counts c.requires in
    let q = c.put_text.ensures (unpacked_text a.bytes.now) (record { may_call = λ room h p e. search (rules, standing); written = λ before after next h r. search (rules, arith) }) in
    let small : c.in-Some.n ≤ 33500 = done-small (unpacked_text a.bytes.now) a.room.now 33500 (sym q.value ∙ c.in-Some.is) q.short in
    omega (arith, small)

pub returns-in-None : goal.returns-in-None
returns-in-None c =
    let a = c.args in
    let standing = formed c.args.bytes.now c.args.counts c.requires in
    let q = c.put_text.ensures (unpacked_text a.bytes.now) (record { may_call = λ room h p e. search (rules, standing); written = λ before after next h r. search (rules, arith) }) in
    let said = put_out a.bytes.now a.room.now a.size.now a.counts c.requires (long_room 1 (length a.size.now) c.room_for.ensures c.in_ok-room_for.was) _ q.value (ap ruling_put (sym c.in-None.is)) q.room (ap (size_put a.size.now) (sym c.in-None.is)) in record { value = said.0; room_after = said.1.0; size_after = said.1.1 }

pub returns-in-Some : goal.returns-in-Some
returns-in-Some c =
    let a = c.args in
    let standing = formed c.args.bytes.now c.args.counts c.requires in
    let q = c.put_text.ensures (unpacked_text a.bytes.now) (record { may_call = λ room h p e. search (rules, standing); written = λ before after next h r. search (rules, arith) }) in
    let said = put_out a.bytes.now a.room.now a.size.now a.counts c.requires (long_room 1 (length a.size.now) c.room_for.ensures c.in_ok-room_for.was) _ q.value (ap ruling_put (sym c.in-Some.is)) q.room (sets-front a.size.now (_ ∷ []) (long_room 1 (length a.size.now) c.room_for.ensures c.in_ok-room_for.was) ∙ ap (size_put a.size.now) (sym c.in-Some.is)) in record { value = said.0; room_after = said.1.0; size_after = said.1.1 }
