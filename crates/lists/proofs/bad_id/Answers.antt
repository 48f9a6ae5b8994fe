use Rattle.lists.proofs.Numbers.{id_later, id_parameters, id_none}
use Rattle.form.proofs.Fields.{kind-numbers}
use mathlib.Core.Path.{sym}
use native.Mathlib.Omega.{arith}
use Rattle.lists.proofs.bad_id.Goals as goal

pub returns-then-kind-eq-PARAMETERS : goal.returns-then-kind-eq-PARAMETERS
returns-then-kind-eq-PARAMETERS c = rw c.if-kind-eq-PARAMETERS.true (sym (id_parameters _ _))

pub returns-then-j-eq0 : goal.returns-then-j-eq0
returns-then-j-eq0 c = rw c.if-j-eq0.true (sym (id_none _ _))

pub returns : goal.returns
returns c =
    let n = c.numbers-n in
    let a = c.args in
    sym (id_later a.kind a.rows.now a.j c.requires.2 n.ensures.0 (rw n.ensures.0 (kind-numbers a.kind c.requires.0 c.requires.1)) c.requires.0 c.requires.1 (omega arith) (omega arith))
