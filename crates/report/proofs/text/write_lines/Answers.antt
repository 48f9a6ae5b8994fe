use native.Mathlib.Omega.{arith}
use mathlib.Core.Path.{ap}
use lib.ListN.{length}
use Rattle.worksheets.proofs.Accepted.{told, refused_verdict}
use Rattle.report.specs.Lines.{text_of}
use Rattle.report.proofs.Filled.{as_text}
use Rattle.report.proofs.Short.{refused-short}
use Rattle.report.proofs.text.write_lines.Goals as goal

pub put_refused-requires : goal.put_refused-requires
put_refused-requires c =
    let s = c.args.bytes.now in
    omega (arith, c.requires, refused-short s _ _ (refused_verdict s _ _ (told s c.figures.ensures c.in-Err.is)))

pub returns-in-Err : goal.returns-in-Err
returns-in-Err c =
    let s = c.args.bytes.now in
    let t = told s c.figures.ensures c.in-Err.is in record { written_at = as_text t c.put_refused.ensures; bytes_len_bound = omega (arith, ap length (ap text_of t), refused-short s _ _ (refused_verdict s _ _ t)) }
