-- "A return is 1 to .. blocks of 512 bytes", 22 in every edition: the header, the check, and rules 1 to 4, each the test that a place breaks it.
use Rattle.std.specs.Prelude.{ℕ, zero, suc, ◌+◌, ◌-◌, ◌*◌, ◌/◌, ◌%◌, Bool, cond, not, ◌&&◌, ◌||◌, List, [], ◌∷◌, length, take, drop, ltb, leb, eqb}
use Rattle.form.specs.First.{any}
use Rattle.form.specs.Bytes.{byte_at, number, stray_in}
use Rattle.form.specs.Layout.{kinds, parameters_kind, layout, stray_at}
use Rattle.form.specs.Edition.{last_kind, known}

-- "Lengths go to 13 blocks in either edition", with savannas "grow by three blocks", and with soils, and again with crop residues, by "three blocks more": three of each kind, for its 32 rows, and one of parameters
abbrev pub most_blocks : ℕ
most_blocks = 3 * (kinds - 1) + 1

-- the longest return
abbrev pub longest : ℕ
longest = 512 * most_blocks

-- how many whole blocks there are
abbrev pub blocks : List ℕ → ℕ
blocks s = length s / 512

-- "Offset 0 kind, 1 record count, 2 block number from 0 (two bytes), 4 number of blocks (two), 6 edition (two)" of block b
abbrev pub kind_of : List ℕ → ℕ → ℕ
kind_of s b = byte_at s (512 * b)

abbrev pub count_of : List ℕ → ℕ → ℕ
count_of s b = byte_at s (512 * b + 1)

abbrev pub block_number : List ℕ → ℕ → ℕ
block_number s b = number 2 s (512 * b + 2)

abbrev pub blocks_said : List ℕ → ℕ → ℕ
blocks_said s b = number 2 s (512 * b + 4)

abbrev pub edition : List ℕ → ℕ → ℕ
edition s b = number 2 s (512 * b + 6)

-- "8 twelve records of 40 bytes": where record r of block b starts
abbrev pub record_at : ℕ → ℕ → ℕ
record_at b r = 512 * b + 8 + 40 * r

-- "508 the check (four)"
abbrev pub check_said : List ℕ → ℕ → ℕ
check_said s b = number 4 s (512 * b + 508)

-- k times the first byte, k + 1 times the second, and so on, added up
unfoldable pub weighed : ℕ → List ℕ → ℕ
weighed k [] = 0
weighed k (x ∷ xs) = k * x + weighed (suc k) xs

-- "the sum, over offsets i from 0 to 507, of (i + 1) times the byte"
unfoldable pub check_due : List ℕ → ℕ → ℕ
check_due s b = weighed 1 (take 508 (drop (512 * b) s))

-- 1: "length is 0, above" the longest "or no multiple of 512"
unfoldable pub bad_length : List ℕ → Bool
bad_length s = eqb (length s) 0 || ltb longest (length s) || not (eqb (length s % 512) 0)

-- 2: "a check is wrong"
unfoldable pub bad_check : List ℕ → ℕ → Bool
bad_check s b = not (eqb (check_said s b) (check_due s b))

-- 3: "kind not 1 to" the edition's last, 4 in edition 1 and 8 in editions 2 and 3, "wrong block number, wrong number of blocks"; "an edition other than 1 or 2", but
-- "3 lets edition 3 in", "an edition unlike block 0's, or a kind above 4 in edition 1"
unfoldable pub bad_header : List ℕ → ℕ → Bool
bad_header s b =
    ltb (kind_of s b) 1
    || ltb (last_kind (edition s b)) (kind_of s b)
    || not (eqb (block_number s b) b)
    || not (eqb (blocks_said s b) (blocks s))
    || not (known (edition s b))
    || not (eqb (edition s b) (edition s 0))

-- 4 is given at a block
-- "whose kind is below the previous block's"
unfoldable pub kind_falls : List ℕ → ℕ → Bool
kind_falls s b = ltb 0 b && ltb (kind_of s b) (kind_of s (b - 1))

-- §1, in place of 01's "which is kind 4 and not last, or last and not kind 4", which it says where no kind is above 4 (promises/Editions):
-- "kind 4 before a kind below 5", the next block's
unfoldable pub low_behind : List ℕ → ℕ → Bool
low_behind s b = ltb (b + 1) (blocks s) && (eqb (kind_of s b) parameters_kind && leb (kind_of s (b + 1)) parameters_kind)

abbrev pub is_last : List ℕ → ℕ → Bool
is_last s b = eqb (b + 1) (blocks s)

-- "a last block below kind 4"
unfoldable pub ends_low : List ℕ → ℕ → Bool
ends_low s b = is_last s b && ltb (kind_of s b) parameters_kind

-- how many of the first n blocks are of a kind
unfoldable pub blocks_below : ℕ → List ℕ → ℕ → ℕ
blocks_below k s zero = 0
blocks_below k s (suc n) = blocks_below k s n + cond (eqb (kind_of s n) k) 1 0

-- "a kind above 4 with no kind 4 before it", anywhere before
unfoldable pub none_before : List ℕ → ℕ → Bool
none_before s b = ltb parameters_kind (kind_of s b) && eqb (blocks_below parameters_kind s b) 0

-- how many blocks before it have its kind
abbrev pub earlier : List ℕ → ℕ → ℕ
earlier s b = blocks_below (kind_of s b) s b

-- "which is the fourth or later of its kind"
abbrev pub fourth_of_kind : List ℕ → ℕ → Bool
fourth_of_kind s b = leb 3 (earlier s b)

-- "whose count is outside 1 to 12 (kind 4: exactly 1)"
unfoldable pub bad_count : List ℕ → ℕ → Bool
bad_count s b = ltb (count_of s b) 1 || ltb 12 (count_of s b) || (eqb (kind_of s b) parameters_kind && not (eqb (count_of s b) 1))

-- "whose count is not 12 though the next block has its kind"
unfoldable pub not_filled : List ℕ → ℕ → Bool
not_filled s b = ltb (b + 1) (blocks s) && (eqb (kind_of s (b + 1)) (kind_of s b) && not (eqb (count_of s b) 12))

-- "which is third of its kind with a count above 8"
abbrev pub over_filled : List ℕ → ℕ → Bool
over_filled s b = eqb (earlier s b) 2 && ltb 8 (count_of s b)

-- "or with a non-zero byte where zero is due, unused records included": in record r
unfoldable pub stray_record : List ℕ → ℕ → ℕ → Bool
stray_record s b r = cond (ltb r (count_of s b)) (stray_at (layout (kind_of s b)) s (record_at b r)) (stray_in s (record_at b r) 40)

-- in one of the twelve records, or in the "488 twenty zero bytes"
unfoldable pub stray : List ℕ → ℕ → Bool
stray s b = any (stray_record s b) 12 || stray_in s (512 * b + 488) 20

unfoldable pub bad_block : List ℕ → ℕ → Bool
bad_block s b =
    kind_falls s b
    || low_behind s b
    || ends_low s b
    || none_before s b
    || fourth_of_kind s b
    || bad_count s b
    || not_filled s b
    || over_filled s b
    || stray s b
