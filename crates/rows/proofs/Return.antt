-- The return of some rows: its blocks kind by kind, and its length. Assumes nothing.
--     length-written    as long as the lists' blocks
--     Storing           the blocks stored kind after kind
--     no_room, .. lists-kept    the answers, from rule to rule; done_by, what an answer that is done comes of
use Prim.Native.Nat.{ℕ, suc, ◌+◌, ◌-◌, ◌*◌, ◌/◌, ◌≤◌, ◌<◌}
use mathlib.Core.Path.{◌≡◌, refl, sym, ap, ◌∙◌}
use mathlib.Core.List.{List, [], ◌∷◌, ◌++◌, map, append_assoc}
use native.Mathlib.Numerals.{add-one}
use native.Mathlib.Omega.{arith}
use lib.ListN.{length, get_or, take, drop, drop_of_length-le}
use lib.Seq.{sets, length-sets, drop-cons}
use Rattle.form.specs.First.{first}
use Rattle.form.specs.Layout.{kinds}
use Rattle.form.specs.Ruling.{rule, refuse, ruling}
use Rattle.form.specs.Records.{Filed, record_rules}
use Rattle.form.specs.Sums.{sum_rules, filed_rules}
use Rattle.form.specs.Refusals.{Clean, Refused, Ruling}
use Rattle.rows.specs.Answers.{Written}
use Rattle.std.specs.Prelude.{Ok, Err, Option}
use Rattle.form.specs.declared.Refusal.{Refusal}
use Rattle.form.proofs.Order.{ruled_by, kept_by, ruled_before, kept-before, too_short_lem, long_enough}
use Rattle.filing.specs.Lists.{Lists, cut, total, blocks_of, filed_list, behind, filed_from, filed_lists}
use Rattle.filing.specs.Written.{in_turn, block_of, bytes_of, kind_blocks}
use Rattle.filing.proofs.Stores.{sets_append, sets-front, length_turns}
use Rattle.filing.proofs.Parts.{length_block}
use Rattle.filing.proofs.Alike.{blocks-behind}
use Rattle.filing.proofs.Cut.{cut-length, cut-lengths, total_none}
use Rattle.lists.proofs.Scan.{in_lengths, part_is, part-long, part-next}
use Rattle.lists.specs.Rules.{bad_at, list_rules, Good, blocks_from}
use Rattle.rows.specs.Writing.{written, room_rule, written_by, write_answer, bytes_after, answer_from5, answer_from12, answer_from9}

pub places_from : (k : ℕ) (l : Lists) → (filed_from k l).places ≡ 12 * blocks_from k (map length l)
unfolding filed_from behind filed_list blocks_from
places_from k [] = refl
places_from k (r ∷ l) = omega (arith, places_from (suc k) l)

module _ (e : ℕ) (l : Lists) where
  blocks_all : (filed_lists l).places / 12 ≡ blocks_from 1 (map length l)
  blocks_all = omega (arith, places_from 1 l)

  pub written_turn : written e l ≡ in_turn (block_of e (filed_lists l) 0 (blocks_from 1 (map length l))) 0 (blocks_from 1 (map length l))
  unfolding bytes_of
  written_turn = rw blocks_all

  pub length-written : length (written e l) ≡ 512 * blocks_from 1 (map length l)
  length-written =
      let n = blocks_from 1 (map length l) in
      ap length written_turn ∙ length_turns (block_of e (filed_lists l) 0 n) 512 (length_block (filed_lists l) e 0 n) 0 n

-- ---- the blocks stored kind after kind

-- the blocks from a kind on, of n in all, the first being number `start`
unfoldable pub rest : ℕ → ℕ → List ℕ → Lists → ℕ → ℕ → List ℕ
rest e n lengths l start k = in_turn (block_of e (filed_from (suc k) (drop k l)) start n) 0 (blocks_from (suc k) (drop k lengths))

-- the blocks of the first k kinds stand; the next kind's rows begin at `from` in the area, and its blocks at number `start`
pub record Storing (e n : ℕ) (lengths area d₀ d : List ℕ) (from start k : ℕ) : Type 0 where
  pub within : k ≤ kinds
  pub at : from ≡ total (take k lengths)
  pub same : length d ≡ length d₀
  pub left : start + blocks_from (suc k) (drop k lengths) ≡ n
  pub whole : sets d (512 * start) (rest e n lengths (cut lengths area) start k) ≡ sets d₀ 0 (written e (cut lengths area))

module _ (e n : ℕ) (lengths area : List ℕ) (g : Good lengths (length area)) (en : n ≡ blocks_from 1 lengths) where
  pub written-long : 512 * n ≡ length (written e (cut lengths area))
  written-long = sym (length-written e (cut lengths area) ∙ rw (cut-lengths lengths area (omega (arith, g.all)), en))

  pub storing_none : {d : List ℕ} → Storing e n lengths area d d 0 0 0
  unfolding rest
  storing_none = record {
    within = omega arith;
    at = sym (total_none lengths);
    same = refl;
    left = omega (arith, en);
    whole = rw (written_turn e (cut lengths area), cut-lengths lengths area (omega (arith, g.all)), ← en);
  }

  module _ {d₀ d : List ℕ} {from start k m : ℕ} (s : Storing e n lengths area d₀ d from start k) (h : k < kinds) (em : m ≡ get_or lengths k 0) where
    long : length (take (from + m - from) (drop from area)) ≡ m
    long = part-long area k g s.at h em

    next-blocks : blocks_from (suc k) (drop k lengths) ≡ blocks_of (suc k) m + blocks_from (suc (suc k)) (drop (suc k) lengths)
    unfolding blocks_from
    next-blocks = rw (drop-cons lengths k 0 (in_lengths area k g s.at h em), em)

    pub storing_room : start + blocks_of (k + 1) (length (take (from + m - from) (drop from area))) ≤ n
    storing_room = rw (long, add-one k) (omega (arith, s.left, next-blocks))

    -- the blocks of the kind, and then those of the kinds after it
    next : rest e n lengths (cut lengths area) start k
        ≡ kind_blocks e n (suc k) (take (from + m - from) (drop from area)) start ++ rest e n lengths (cut lengths area) (start + blocks_of (suc k) m) (suc k)
    unfolding rest filed_from filed_list
    next =
        let l = cut lengths area in
        let r = take (from + m - from) (drop from area) in
        let i : k < length l = omega (arith, cut-length lengths area, g.each) in
        let cons : drop k l ≡ r ∷ drop (suc k) l = rw (part_is area k g s.at h em) (drop-cons l k [] i) in
        let f = filed_list (suc k) r in
        let b = blocks_from (suc (suc k)) (drop (suc k) lengths) in
        rw (next-blocks, cons, long)
        (rw long at (blocks-behind f (filed_from (suc (suc k)) (drop (suc k) l)) e (blocks_of (suc k) (length r)) b start n refl))

    pub storing_more : {d₁ : List ℕ} {b : ℕ} → d₁ ≡ sets d (512 * start) (kind_blocks e n (k + 1) (take (from + m - from) (drop from area)) start) → b ≡ blocks_of (k + 1) m
        → Storing e n lengths area d₀ d₁ (from + m) (start + b) (k + 1)
    storing_more {d₁} {b} ed eb =
        let r = take (from + m - from) (drop from area) in
        let x : List ℕ = kind_blocks e n (suc k) r start in
        let ed' : d₁ ≡ sets d (512 * start) x = rw (add-one k) at ed in
        let eb' : b ≡ blocks_of (suc k) m = rw (add-one k) at eb in
        let f = filed_list (suc k) r in
        let lx : length x ≡ 512 * b = length_turns (block_of e f start n) 512 (length_block f e start n) 0 (blocks_of (suc k) (length r)) ∙ rw (long, eb') in
        let p : 512 * (start + b) ≡ 512 * start + length x = omega arith in
        let whole : sets d₁ (512 * (start + b)) (rest e n lengths (cut lengths area) (start + b) (suc k)) ≡ sets d₀ 0 (written e (cut lengths area)) =
        rw (p, ed', eb') (rw (next, sets_append) at s.whole) in
        rw (add-one k) (record {
          within = omega arith;
          at = rw (add-one k) at (part-next area k g s.at h em);
          same = rw (ed, length-sets) s.same;
          left = omega (arith, s.left, next-blocks);
          whole = whole;
        })

  pub storing_all : {d₀ d : List ℕ} {from start k : ℕ} → Storing e n lengths area d₀ d from start k → kinds ≤ k → d ≡ sets d₀ 0 (written e (cut lengths area))
  unfolding rest blocks_from in_turn
  storing_all {k = k} s h =
      let none : drop k lengths ≡ [] = drop_of_length-le lengths {i = k} (omega (arith, g.each)) in
      rw none at s.whole

-- ---- the answers, from rule to rule

pub done_by : (e : ℕ) (l : Lists) (u : Ruling) {n : ℕ} → written_by e l u ≡ Ok n → (u ≡ Clean) × (length (written e l) ≡ n)
done_by e l Clean d = (refl, cc)
done_by e l (Err r) d = let z : ◌≡◌ {A = ℕ} 0 1 = cc in absurd (omega arith)

module _ (e : ℕ) (lengths area room : List ℕ) {n : ℕ} (en : n ≡ length (written e (cut lengths area))) where
  pub no_room : length room < n → Refused 9 0 ≡ answer_from9 e lengths area room
  no_room h = ap (written_by e (cut lengths area)) (sym (too_short_lem (length (written e (cut lengths area))) room (omega (arith, en))))

  pub all_done : n ≤ length room → Ok n ≡ answer_from9 e lengths area room
  all_done h = ap Ok en ∙ ap (written_by e (cut lengths area)) (sym (long_enough (length (written e (cut lengths area))) room (omega (arith, en))))

  pub on_front : {out : List ℕ} → n ≤ length room → out ≡ sets room 0 (written e (cut lengths area)) → out ≡ bytes_after e lengths area room (Ok n)
  on_front h s = s ∙ sets-front room (written e (cut lengths area)) (omega arith)

module _ (e : ℕ) (lengths area room : List ℕ) where
  f : Filed
  f = filed_lists (cut lengths area)

  pub record_broken : {w : Refusal} → ruling (record_rules e (filed_lists (cut lengths area))) ≡ Err w → Err w ≡ answer_from5 e lengths area room
  unfolding f
  record_broken b = ap (written_by e (cut lengths area)) (sym (ruled_before (filed_rules e f) (room_rule e (cut lengths area) room ∷ []) (ruled_before (record_rules e f) (sum_rules f) b)))

  pub records-kept : {r : Written} → ruling (record_rules e (filed_lists (cut lengths area))) ≡ Clean → r ≡ answer_from12 e lengths area room → r ≡ answer_from5 e lengths area room
  unfolding f
  records-kept c q =
      let last = room_rule e (cut lengths area) room ∷ [] in
      q ∙ ap (written_by e (cut lengths area)) (sym (ap ruling (append_assoc (record_rules e f) (sum_rules f) last) ∙ kept-before (record_rules e f) (sum_rules f ++ last) c))

  pub sum-broken : {w : Refusal} → ruling (sum_rules (filed_lists (cut lengths area))) ≡ Err w → Err w ≡ answer_from12 e lengths area room
  unfolding f
  sum-broken b = ap (written_by e (cut lengths area)) (sym (ruled_before (sum_rules f) (room_rule e (cut lengths area) room ∷ []) b))

  pub sums_kept : {r : Written} → ruling (sum_rules (filed_lists (cut lengths area))) ≡ Clean → r ≡ answer_from9 e lengths area room → r ≡ answer_from12 e lengths area room
  unfolding f
  sums_kept c q = q ∙ ap (written_by e (cut lengths area)) (sym (kept-before (sum_rules f) (room_rule e (cut lengths area) room ∷ []) c))

  module _ {x : Option ℕ} {said : Ruling} (place : x ≡ first (bad_at e lengths (length area)) (suc kinds)) (refused : said ≡ refuse 10 x Clean) where
    pub list-broken : {w : Refusal} → said ≡ Err w → Err w ≡ write_answer e lengths area room
    unfolding write_answer list_rules
    list-broken b = ap (written_by e (cut lengths area)) (ruled_by (rule 10 (suc kinds) (bad_at e lengths (length area))) _ place refused b)

    pub lists-kept : {r : Written} → said ≡ Clean → r ≡ answer_from5 e lengths area room → r ≡ write_answer e lengths area room
    unfolding write_answer list_rules
    lists-kept c q = q ∙ ap (written_by e (cut lengths area)) (kept_by (rule 10 (suc kinds) (bad_at e lengths (length area))) _ place refused c)
