-- The rules of a return in 01's own words, before there was an edition 2: what an edition 1 return is still read by (standing/proofs/FirstEdition).
use Rattle.std.specs.Prelude.{ℕ, ◌%◌, Bool, not, ◌&&◌, ◌||◌, List, [], ◌∷◌, length, ltb, eqb}
use Rattle.form.specs.Ruling.{Rule, rule}
use Rattle.form.specs.Layout.{layout, above_limit}
use Rattle.form.specs.Block.{blocks, kind_of, block_number, blocks_said, edition, bad_check, kind_falls, is_last, fourth_of_kind, bad_count, not_filled, over_filled, stray}
use Rattle.form.specs.Records.{Filed, filed, overspent, bad_id}

-- 1: "length is 0, above 5,120 or no multiple of 512"
abbrev pub bad_length01 : List ℕ → Bool
bad_length01 s = eqb (length s) 0 || ltb 5120 (length s) || not (eqb (length s % 512) 0)

-- 3: "kind not 1 to 4, wrong block number, wrong number of blocks, edition not 1"
abbrev pub bad_header01 : List ℕ → ℕ → Bool
bad_header01 s b =
    ltb (kind_of s b) 1
    || ltb 4 (kind_of s b)
    || not (eqb (block_number s b) b)
    || not (eqb (blocks_said s b) (blocks s))
    || not (eqb (edition s b) 1)

-- 4: "which is kind 4 and not last, or last and not kind 4"
abbrev pub wrong_end01 : List ℕ → ℕ → Bool
wrong_end01 s b = (eqb (kind_of s b) 4 && not (is_last s b)) || (is_last s b && not (eqb (kind_of s b) 4))

-- and the rest of 4, which is as it was
abbrev pub bad_block01 : List ℕ → ℕ → Bool
bad_block01 s b =
    kind_falls s b
    || wrong_end01 s b
    || fourth_of_kind s b
    || bad_count s b
    || not_filled s b
    || over_filled s b
    || stray s b

-- 5 to 7: "an id not above the id before it, same kind"; "a field above its limit"; "on-site + off-site + decay above 1,000", of a conversion row
abbrev pub records01 : Filed → List Rule
records01 f =
    rule 5 f.places (bad_id f)
    ∷ rule 6 f.places (λ j. f.used j && above_limit (layout (f.kind j)) (f.row j))
    ∷ rule 7 f.places (λ j. f.used j && (eqb (f.kind j) 1 && overspent (f.row j)))
    ∷ []

abbrev pub rules01 : List ℕ → List Rule
rules01 s =
    rule 1 1 (λ p. bad_length01 s)
    ∷ rule 2 (blocks s) (bad_check s)
    ∷ rule 3 (blocks s) (bad_header01 s)
    ∷ rule 4 (blocks s) (bad_block01 s)
    ∷ records01 (filed s)
