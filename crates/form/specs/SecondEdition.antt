-- The rules of a return before there was an edition 3, in the words of 01, §1, §8 and §11: what editions 1 and 2 are still read by, with scattered trees
-- (proofs/SecondEdition). The second edition's number is left open: with 2 they are the rules as they were, and with 3 in its place they are those of edition 3, which
-- "is otherwise edition 2". Rules 1, 2 and 4 and those that add rows up are as they were.
use Rattle.std.specs.Prelude.{ℕ, ◌<◌, ◌≡◌, Bool, true, false, not, ◌&&◌, ◌||◌, List, [], ◌∷◌, ◌++◌, ltb, eqb}
use Rattle.form.specs.Ruling.{Rule, rule}
use Rattle.form.specs.Layout.{kinds}
use Rattle.form.specs.Block.{blocks, kind_of, block_number, blocks_said, edition, bad_length, bad_check, bad_block}
use Rattle.form.specs.Records.{Filed, filed, filed_rows, unit_code, is_scattered}
use Rattle.form.specs.Sums.{cleared_above, soil_uneven}
use Rattle.form.specs.FirstEdition.{records01}

-- an edition that there is: 1, or the second's number
abbrev pub known_before : ℕ → ℕ → Bool
known_before second e = eqb e 1 || eqb e second

-- 3: "kind not 1 to" the last there is, "wrong block number, wrong number of blocks"; "an edition other than 1 or 2, an edition unlike block 0's, or a kind above 4 in
-- edition 1"
abbrev pub bad_header_before : ℕ → List ℕ → ℕ → Bool
bad_header_before second s b =
    ltb (kind_of s b) 1
    || ltb kinds (kind_of s b)
    || not (eqb (block_number s b) b)
    || not (eqb (blocks_said s b) (blocks s))
    || not (known_before second (edition s b))
    || not (eqb (edition s b) (edition s 0))
    || (eqb (edition s b) 1 && ltb 4 (kind_of s b))

-- 5 to 7, which are 01's, then 12 "straight after 7" and 13 "straight after 12"
abbrev pub filed_before : Filed → List Rule
filed_before f =
    records01 f
    ++ (rule 12 1 (λ p. cleared_above (filed_rows f 3) (filed_rows f 1))
    ∷ rule 13 f.places (soil_uneven f)
    ∷ [])

abbrev pub rules_before : ℕ → List ℕ → List Rule
rules_before second s =
    rule 1 1 (λ p. bad_length s)
    ∷ rule 2 (blocks s) (bad_check s)
    ∷ rule 3 (blocks s) (bad_header_before second s)
    ∷ rule 4 (blocks s) (bad_block s)
    ∷ filed_before (filed s)

-- ---- "no unit code 1", which edition 3 asks for besides

-- no stock row is of scattered trees
abbrev pub NoneScattered : Filed → Type 0
NoneScattered f = (j : ℕ) → j < f.places → f.used j ≡ true → f.kind j ≡ 2 → is_scattered (f.row j) ≡ false

-- 14: "place of the record, for code 1 in edition 3", and the lowest such place
pub record FirstScattered (e : ℕ) (f : Filed) (p : ℕ) : Type 0 where
  pub edition_3 : e ≡ 3
  pub inside : p < f.places
  pub used_there : f.used p ≡ true
  pub stock-row : f.kind p ≡ 2
  pub code_1 : unit_code (f.row p) ≡ 1
  pub none_before : (j : ℕ) → j < p → f.used j ≡ true → f.kind j ≡ 2 → is_scattered (f.row j) ≡ false
