use mathlib.Core.Path.{refl}
use mathlib.Core.List.{◌++◌}
use Rattle.phrases.specs.Lines.{spaces}
use Rattle.phrases.proofs.LineTexts.{as_text, more-text}
use Rattle.explained.specs.Explained.{onsite_name, offsite_name, decay_name, weight_lines}
use Rattle.explained.proofs.Texts.{weight_text}
use native.Mathlib.Omega.{arith}
use borrow.Author.Rules.{rules}
use Rattle.explained.proofs.text.put_weights.Goals as goal

pub put_weight-a-requires : goal.put_weight-a-requires
unfolding spaces
put_weight-a-requires c = (search rules, search rules, search rules, omega (arith, c.requires))

pub put_weight-b-requires : goal.put_weight-b-requires
unfolding spaces
put_weight-b-requires c =
    (search rules, search rules, search rules, omega (arith, c.requires, c.put_weight-a.ensures.1, c.put_weight-a.auto.out))

pub put_weight-requires : goal.put_weight-requires
unfolding spaces
put_weight-requires c = (
  search rules,
  search rules,
  search rules,
  omega (arith, c.requires, c.put_weight-a.ensures.1, c.put_weight-b.ensures.1, c.put_weight-a.auto.out, c.put_weight-b.auto.out),
)

pub returns : goal.returns
unfolding spaces
returns c =
    let w = c.args.w in (
      more-text (weight_lines onsite_name w.onsite) (weight_lines offsite_name w.offsite ++ weight_lines decay_name w.decay)
          (as_text (weight_text onsite_name w.onsite refl) c.put_weight-a.ensures.0)
          (more-text (weight_lines offsite_name w.offsite) (weight_lines decay_name w.decay)
          (as_text (weight_text offsite_name w.offsite refl) c.put_weight-b.ensures.0)
          (as_text (weight_text decay_name w.decay refl) c.put_weight.ensures.0)),
      omega (arith, c.put_weight-a.ensures.1, c.put_weight-b.ensures.1, c.put_weight.ensures.1),
    )
