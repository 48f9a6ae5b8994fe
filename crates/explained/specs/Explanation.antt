-- What an explanation is.
use Rattle.std.specs.Prelude.{Result, Ok}
use Rattle.heaviest.specs.declared.Weights.{Weights}
use Rattle.matter.specs.declared.Matter.{Matter}
use Rattle.reasons.specs.declared.Reason.{Reason}

-- the heaviest rows and what became of the cleared biomass, or the values that clash
abbrev pub Explanation : Type 0
Explanation = Result (Weights × Matter) Reason

pattern abbrev pub Accepted : Weights → Matter → Explanation
Accepted w m = Ok (w, m)
