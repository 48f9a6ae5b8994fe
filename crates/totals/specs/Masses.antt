-- A mass of one substance, or a count of periods, from its exact number in the unit of its column: the number's two words.
use Rattle.std.specs.Prelude.{ℕ}
use Rattle.wide.specs.Numbers.{words_of}
use Rattle.totals.specs.declared.DryMatter.{DryMatter}
use Rattle.totals.specs.declared.Carbon.{Carbon}
use Rattle.totals.specs.declared.Periods.{Periods}

abbrev pub dry_matter : ℕ → DryMatter
dry_matter n = record { 0 = words_of n }

abbrev pub carbon : ℕ → Carbon
carbon n = record { 0 = words_of n }

abbrev pub periods : ℕ → Periods
periods n = record { 0 = words_of n }
