-- "The return": filed records as bytes.
use Rattle.form.specs.Bytes.{little_endian}
use Rattle.std.specs.Prelude.{ℕ, zero, suc, ◌+◌, ◌-◌, ◌*◌, ◌/◌, cond, List, [], ◌∷◌, ◌++◌, length, get_or, drop, replicate}
use Rattle.form.specs.Layout.{Layout, layout}
use Rattle.form.specs.Block.{weighed}
use Rattle.form.specs.Records.{Filed}
use Rattle.filing.specs.Lists.{blocks_of, filed_list}

abbrev pub zeros : ℕ → List ℕ
zeros n = replicate n 0

-- "Records, in field order; bytes after the last field are zero": the record of a row, from its byte k on
unfoldable pub record_from : ℕ → Layout → List ℕ → List ℕ
record_from k [] r = zeros (40 - k)
record_from k (f ∷ l) r =
    zeros f.zeros ++ (little_endian f.width (get_or r 0 0) ++ record_from (k + f.zeros + f.width) l (drop 1 r))

abbrev pub record_of : Layout → List ℕ → List ℕ
record_of l r = record_from 0 l r

-- f i, f (i + 1) and so on, n of them, one after the other
unfoldable pub in_turn : (ℕ → List ℕ) → ℕ → ℕ → List ℕ
in_turn f i zero = []
in_turn f i (suc n) = f i ++ in_turn f (suc i) n

-- "Offset 0 kind, 1 record count, 2 block number from 0 (two bytes), 4 number of blocks (two), 6 edition (two)"
unfoldable pub head_of : ℕ → ℕ → ℕ → ℕ → ℕ → List ℕ
head_of edition kind count b n = kind ∷ count ∷ little_endian 2 b ++ (little_endian 2 n ++ little_endian 2 edition)

-- "508 the check (four)", behind the bytes that it checks
unfoldable pub sealed : List ℕ → List ℕ
sealed x = x ++ little_endian 4 (weighed 1 x)

module _ (f : Filed) where
  -- the record at a place; an unused one is zeros
  unfoldable pub record_on : ℕ → List ℕ
  record_on j = cond (f.used j) (record_of (layout (f.kind j)) (f.row j)) (zeros 40)

  -- how many of the n places from j on are used
  unfoldable pub used_from : ℕ → ℕ → ℕ
  used_from j zero = 0
  used_from j (suc n) = cond (f.used j) 1 0 + used_from (suc j) n

module _ (edition : ℕ) (f : Filed) where
  -- "8 twelve records of 40 bytes, 488 twenty zero bytes": block b of these records, of n in all, the first being number `start`
  unfoldable pub body_of : ℕ → ℕ → ℕ → List ℕ
  body_of start n b =
      head_of edition (f.kind (12 * b)) (used_from f (12 * b) 12) (start + b) n ++ (in_turn (record_on f) (12 * b) 12 ++ zeros 20)

  unfoldable pub block_of : ℕ → ℕ → ℕ → List ℕ
  block_of start n b = sealed (body_of start n b)

  -- all blocks
  unfoldable pub bytes_of : List ℕ
  bytes_of = in_turn (block_of 0 (f.places / 12)) 0 (f.places / 12)

-- the blocks of one list, of n in all, the first being number `start`
abbrev pub kind_blocks : ℕ → ℕ → ℕ → List ℕ → ℕ → List ℕ
kind_blocks edition n kind r start = in_turn (block_of edition (filed_list kind r) start n) 0 (blocks_of kind (length r))
