use native.Mathlib.Omega.{arith}
use mathlib.Core.Path.{sym, ap}
use mathlib.Core.List.{flat_map}
use lib.ListN.{length}
use Rattle.form.specs.Refusals.{Verdict}
use Rattle.phrases.proofs.LineTexts.{as_text}
use Rattle.national.specs.Nation.{refusal_by, refusals_text}
use Rattle.national.proofs.Pieces.{by_refused, written_none}
use Rattle.national.proofs.parts.put_refusal.Goals as goal

pub put_listed-requires : goal.put_listed-requires
put_listed-requires c =
    omega (arith, c.requires, ap length (by_refused c.args.position c.in-Err.is))

pub returns-in-Ok : goal.returns-in-Ok
unfolding flat_map
returns-in-Ok c =
    let a = c.args in
    as_text (sym (ap (λ (x : Verdict). refusals_text (refusal_by a.position x)) c.in-Ok.is)) (written_none a.out.now a.at)

pub returns-in-Err : goal.returns-in-Err
returns-in-Err c =
    let a = c.args in
    as_text (by_refused a.position c.in-Err.is) c.put_listed.ensures
