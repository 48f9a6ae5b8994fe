-- One block: what stands in the bytes as it is written, and what the rules read there. Assumes nothing.
--     block_read      a block that stands as it is written is read as it was given
--     block_stands    a block that breaks no rule stands as it would be written
use Prim.Native.Nat.{ℕ, zero, suc, ◌+◌, ◌-◌, ◌*◌, ◌/◌, ◌^◌, ◌<◌, ◌≤◌}
use mathlib.Core.Path.{◌≡◌, refl, sym, ap, subst, ◌∙◌}
use mathlib.Core.Bool.{false}
use mathlib.Core.List.{List, [], ◌∷◌, ◌++◌}
use native.Mathlib.Nat.{zero-add, add-zero, mul-suc, mul-zero, mul-le-mul}
use native.Mathlib.Omega.{arith}
use lib.Dec.{ltb, lit<}
use lib.ListN.{length, get_or, take, drop}
use lib.Seq.{drop-cons, take_at}
use borrow.Author.Tests.{eqb-true, not-false}
use Rattle.standing.proofs.Stand.{headed}
use Rattle.form.specs.First.{any}
use Rattle.form.specs.Bytes.{byte_at, number, stray_in}
use Rattle.form.specs.Layout.{Layout, layout}
use Rattle.form.specs.Block.{blocks, kind_of, count_of, block_number, blocks_said, edition, record_at, check_said, weighed, check_due, bad_check, bad_header, stray_record, stray}
use Rattle.form.specs.Records.{Filed, filed}
use Rattle.form.proofs.Tests.{or_none, either}
use Rattle.form.proofs.Search.{any_each}
use Rattle.form.proofs.Places.{block_of_lem, position_of}
use Rattle.filing.specs.Written.{zeros, record_from, in_turn, head_of, sealed, record_on, used_from, body_of, block_of}
use Rattle.form.specs.Bytes.{little_endian}
use Rattle.filing.proofs.Stands.{Stands, stands-left, stands_right, stands-join, stands_at, Bytes, length_le, number_read, number-stands, zeros-read, zeros_stand, record_stands}
use Rattle.filing.proofs.Stores.{length_turns, zeros_turn}
use Rattle.filing.proofs.Turns.{turn_stands, turns_stand}
use Rattle.form.proofs.Fields.{ends_40}
use Rattle.filing.proofs.Parts.{length-head, length_on, length-body, used-count}

-- ---- read as it was given

-- what the rules read of block b, where it stands as block b of n of f
pub record Read (e : ℕ) (s : List ℕ) (f : Filed) (n b : ℕ) : Type 0 where
  pub kind : kind_of s b ≡ f.kind (12 * b)
  pub count : count_of s b ≡ used_from f (12 * b) 12
  pub number : block_number s b ≡ b
  pub said : blocks_said s b ≡ n
  pub edition : edition s b ≡ e
  pub check : check_said s b ≡ check_due s b
  pub records : (r : ℕ) → r < 12 → Stands s (record_at b r) (record_on f (12 * b + r))
  pub zeros : stray_in s (512 * b + 488) 20 ≡ false

-- each element is a byte
Small : List ℕ → Type 0
Small [] = Unit {0}
Small (v ∷ x) = (v < 256) × Small x

small_append : (x y : List ℕ) → Small x → Small y → Small (x ++ y)
unfolding Small
small_append [] y h g = g
small_append (v ∷ x) y h g = (h.0, small_append x y h.1 g)

small_le : (w v : ℕ) → Small (little_endian w v)
unfolding Small little_endian
small_le zero v = tt
small_le (suc w) v = (omega arith, small_le w (v / 256))

small_turns : (f : ℕ → List ℕ) → ((k : ℕ) → Small (f k)) → (i n : ℕ) → Small (in_turn f i n)
unfolding in_turn Small
small_turns f h i zero = tt
small_turns f h i (suc n) = small_append (f i) (in_turn f (suc i) n) (h i) (small_turns f h (suc i) n)

small-zeros : (n : ℕ) → Small (zeros n)
unfolding Small
small-zeros n = rw (zeros_turn 0 n) at (small_turns (λ k. 0 ∷ []) (λ k. (lit< tt, tt)) 0 n)

small_record : (k : ℕ) (l : Layout) (r : List ℕ) → Small (record_from k l r)
unfolding record_from
small_record k [] r = small-zeros (40 - k)
small_record k (f ∷ l) r =
    small_append (zeros f.zeros) _ (small-zeros f.zeros)
    (small_append (little_endian f.width (get_or r 0 0)) _ (small_le f.width (get_or r 0 0)) (small_record (k + f.zeros + f.width) l (drop 1 r)))

small_on : (f : Filed) (j : ℕ) → Small (record_on f j)
unfolding record_on
small_on f j = either Small (f.used j) (λ u. small_record 0 (layout (f.kind j)) (f.row j)) (λ u. small-zeros 40)

-- the check of bytes has room in four
weighed-small : (k n : ℕ) (x : List ℕ) → Small x → k + length x ≤ n → weighed k x ≤ n * 255 * length x
unfolding weighed Small
weighed-small k n [] b h = omega arith
weighed-small k n (v ∷ x) b h =
    let one : k * v ≤ n * 255 = mul-le-mul (omega arith) (omega (arith, b.0)) in
    omega (arith, weighed-small (suc k) n x b.1 (omega arith), mul-suc (n * 255) (length x))

module _ (e : ℕ) (s : List ℕ) (f : Filed) (n b : ℕ) (kind-small : f.kind (12 * b) < 256) (count_small : used_from f (12 * b) 12 < 256) where
  body-small : Small (body_of e f 0 n b)
  unfolding body_of head_of Small
  body-small =
      let numbers = small_append (little_endian 2 (0 + b)) _ (small_le 2 (0 + b)) (small_append (little_endian 2 n) (little_endian 2 e) (small_le 2 n) (small_le 2 e)) in
      let records = small_append (in_turn (record_on f) (12 * b) 12) (zeros 20) (small_turns (record_on f) (small_on f) (12 * b) 12) (small-zeros 20) in
      (kind-small, (count_small, small_append (little_endian 2 (0 + b) ++ (little_endian 2 n ++ little_endian 2 e)) _ numbers records))

  pub block_read : e < 65536 → b < 65536 → n < 65536 → Stands s (512 * b) (block_of e f 0 n b) → Read e s f n b
  unfolding body_of block_of sealed head_of check_due
  block_read el bl nl st =
      let kind = f.kind (12 * b) in
      let count = used_from f (12 * b) 12 in
      let x : List ℕ = body_of e f 0 n b in
      let r : List ℕ = in_turn (record_on f) (12 * b) 12 in
      let h : List ℕ = head_of e kind count (0 + b) n in
      let lx = length-body f e 0 n b in
      let lh = length-head e kind count (0 + b) n in
      let lr = length_turns (record_on f) 40 (length_on f) (12 * b) 12 in
      let body = stands-left x (little_endian 4 (weighed 1 x)) st in
      let head = stands-left h (r ++ zeros 20) body in
      let tail = stands_right h (r ++ zeros 20) {q = 512 * b + 8} (omega arith) body in
      let rs = stands-left r (zeros 20) tail in
      let numbers = stands_right (kind ∷ count ∷ []) (little_endian 2 (0 + b) ++ (little_endian 2 n ++ little_endian 2 e)) {q = 512 * b + 2} refl head in
      let after = stands_right (little_endian 2 (0 + b)) (little_endian 2 n ++ little_endian 2 e) {q = 512 * b + 4} (omega (arith, length_le 2 (0 + b))) numbers in
      let last = stands_right (little_endian 2 n) (little_endian 2 e) {q = 512 * b + 6} (omega (arith, length_le 2 n)) after in
      let whole : take 508 (drop (512 * b) s) ≡ x = rw body.is (take_at x body.rest 508 lx) in
      let room : weighed 1 x < 256 ^ 4 = omega (arith, weighed-small 1 509 x body-small (omega arith)) in
      record {
        kind = rw (add-zero (512 * b)) at (stands_at h 0 (omega arith) head);
        count = stands_at h 1 (omega arith) head;
        number = number_read 2 s (512 * b + 2) (omega arith) (stands-left (little_endian 2 (0 + b)) _ numbers) ∙ zero-add b;
        said = number_read 2 s (512 * b + 4) (omega arith) (stands-left (little_endian 2 n) _ after);
        edition = number_read 2 s (512 * b + 6) (omega arith) last;
        check = number_read 4 s (512 * b + 508) room (stands_right x (little_endian 4 (weighed 1 x)) (omega arith) st) ∙ rw whole;
        records = λ i l. turn_stands (record_on f) 40 (length_on f) s 12 (12 * b) (512 * b + 8) i l rs;
        zeros = zeros-read 20 s (512 * b + 488) (stands_right r (zeros 20) (omega arith) tail);
      }

-- ---- stands as it would be written

byte_stands : (s : List ℕ) (p : ℕ) → p < length s → Stands s p (byte_at s p ∷ [])
byte_stands s p h = record { rest = drop (suc p) s; is = drop-cons s p 0 h }

module _ (s : List ℕ) (b : ℕ) (bytes : Bytes s) (room : 512 * b + 512 ≤ length s) where
  used_there : (r : ℕ) → r < 12 → (filed s).used (12 * b + r) ≡ ltb r (count_of s b)
  used_there r l = rw (block_of_lem b r l, position_of b r l)

  pub count_there : count_of s b ≤ 12 → used_from (filed s) (12 * b) 12 ≡ count_of s b
  count_there h = used-count (filed s) 12 0 (count_of s b) (12 * b) (λ r l. rw (zero-add r) (used_there r l)) ∙ omega arith

  on_stands : (r : ℕ) → r < 12 → stray_record s b r ≡ false → Stands s (record_at b r) (record_on (filed s) (12 * b + r))
  unfolding stray_record record_on
  on_stands r l e =
      let at = record_at b r in
      let k = layout (kind_of s b) in
      rw (used_there r l, block_of_lem b r l, position_of b r l)
      (either (λ (x : List ℕ). Stands s at x) (ltb r (count_of s b))
      (λ t. rw (add-zero at) at (record_stands 0 k s at (ends_40 (kind_of s b)) bytes (omega arith) (rw t at e)))
      (λ t. zeros_stand 40 s at (omega arith) (rw t at e)))

  pub block_stands : (e : ℕ) → edition s b ≡ e → bad_check s b ≡ false → bad_header s b ≡ false → stray s b ≡ false → count_of s b ≤ 12
      → Stands s (512 * b) (block_of e (filed s) 0 (blocks s) b)
  unfolding bad_check stray check_due body_of block_of sealed head_of
  block_stands e ee ec eh es few =
      let f = filed s in
      let n = blocks s in
      let kind = f.kind (12 * b) in
      let count = used_from f (12 * b) 12 in
      let hn = headed s b eh in
      let clean = or_none (any (stray_record s b) 12) (stray_in s (512 * b + 488) 20) es in
      let x : List ℕ = body_of e f 0 n b in
      let r : List ℕ = in_turn (record_on f) (12 * b) 12 in
      let h : List ℕ = head_of e kind count (0 + b) n in
      let lh = length-head e kind count (0 + b) n in
      let lr = length_turns (record_on f) 40 (length_on f) (12 * b) 12 in
      let i : 12 * b / 12 ≡ b = omega arith in
      let k₀ : Stands s (512 * b) (kind ∷ []) = rw i (byte_stands s (512 * b) (omega arith)) in
      let c₀ : Stands s (512 * b + 1) (count ∷ []) = rw (count_there few) (byte_stands s (512 * b + 1) (omega arith)) in
      let two : (p v : ℕ) → number 2 s p ≡ v → p + 2 ≤ length s → Stands s p (little_endian 2 v) =
      λ p v q l. subst (λ (y : ℕ). Stands s p (little_endian 2 y)) q (number-stands 2 s p bytes l) in
      let numbers =
      stands-join (little_endian 2 (0 + b)) (little_endian 2 n ++ little_endian 2 e) {q = 512 * b + 4} (omega (arith, length_le 2 (0 + b)))
      (two (512 * b + 2) (0 + b) (hn.number ∙ sym (zero-add b)) (omega arith))
      (stands-join (little_endian 2 n) (little_endian 2 e) {q = 512 * b + 6} (omega (arith, length_le 2 n))
      (two (512 * b + 4) n hn.said (omega arith))
      (two (512 * b + 6) e ee (omega arith))) in
      let head : Stands s (512 * b) h =
      stands-join (kind ∷ []) (count ∷ (little_endian 2 (0 + b) ++ (little_endian 2 n ++ little_endian 2 e))) {q = 512 * b + 1} refl k₀
      (stands-join (count ∷ []) (little_endian 2 (0 + b) ++ (little_endian 2 n ++ little_endian 2 e)) {q = 512 * b + 2} (omega arith) c₀ numbers) in
      let records : Stands s (512 * b + 8) r =
      turns_stand (record_on f) 40 (length_on f) s 12 (12 * b) (512 * b + 8) (λ i l. on_stands i l (any_each (stray_record s b) 12 clean.0 i l)) in
      let body : Stands s (512 * b) x =
      stands-join h (r ++ zeros 20) {q = 512 * b + 8} (omega arith) head
      (stands-join r (zeros 20) {q = 512 * b + 488} (omega arith) records (zeros_stand 20 s (512 * b + 488) (omega arith) clean.1)) in
      let whole : take 508 (drop (512 * b) s) ≡ x = rw body.is (take_at x body.rest 508 (length-body f e 0 n b)) in
      let due : check_said s b ≡ weighed 1 x = eqb-true (check_said s b) (check_due s b) (not-false _ ec) ∙ ap (weighed 1) whole in
      stands-join x (little_endian 4 (weighed 1 x)) {q = 512 * b + 508} (omega (arith, length-body f e 0 n b)) body
      (subst (λ (y : ℕ). Stands s (512 * b + 508) (little_endian 4 y)) due (number-stands 4 s (512 * b + 508) bytes (omega arith)))
