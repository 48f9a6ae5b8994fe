-- Worked examples: the definitions compute. Assumes nothing.
use Rattle.std.specs.Prelude.{ℕ, ◌≡◌, refl, List, [], ◌∷◌, ◌++◌, replicate}
use Rattle.form.specs.Bytes.{number}
use Rattle.form.specs.Layout.{kinds}
use Rattle.cutting.specs.Cutting.{sized_by, next_of, end_of, stopped_by, cut_from, cut_file}
use Rattle.cutting.specs.declared.Stop.TheVariants.{Whole, Blocks, Short, Many}

-- a piece of one block, whose header says so
block : List ℕ
block = 4 ∷ 1 ∷ 0 ∷ 0 ∷ 1 ∷ 0 ∷ replicate 506 0

-- no return; two whole ones; a third that has only five bytes; one whose header says 256 blocks; two where one is allowed
nothing : cut_file [] ≡ stopped_by Whole
unfolding cut_from next_of
nothing = refl

two : cut_file (block ++ block) ≡ record { returns = block ∷ block ∷ []; stop = Whole }
unfolding block cut_from next_of sized_by number kinds
two = refl

inside : cut_file (block ++ (4 ∷ 1 ∷ 0 ∷ 0 ∷ 1 ∷ [])) ≡ record { returns = block ∷ []; stop = Short }
unfolding block cut_from next_of sized_by number kinds
inside = refl

unlikely : cut_file (4 ∷ 1 ∷ 0 ∷ 0 ∷ 0 ∷ 1 ∷ []) ≡ stopped_by (Blocks 256)
unfolding cut_from next_of sized_by number kinds
unlikely = refl

too_many : cut_from 1 (block ++ block) ≡ record { returns = block ∷ []; stop = Many }
unfolding block cut_from next_of sized_by number kinds end_of
too_many = refl
