use Rattle.matter.proofs.several.BurnedAddsUp.plus.Goals as goal

pub returns : goal.returns
returns c = λ i. record { oxidised = c.plus.ensures i; charcoal = c.plus-2.ensures i }
