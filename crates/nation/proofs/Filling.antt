-- What is taken for the next return of an input whose bytes are known. Assumes nothing.
--     head_ends     the input ended within the first six bytes
--     head_filled   as many as these six say, as far as there are any
use Prim.Native.Nat.{ℕ, ◌+◌, ◌-◌, ◌<◌, ◌≤◌}
use mathlib.Core.Path.{◌≡◌, sym, ap, ◌∙◌}
use mathlib.Core.List.{List, [], ◌++◌, append_assoc, append-nil}
use native.Mathlib.Decide.{dec_lt}
use native.Mathlib.Omega.{arith}
use lib.ListN.{length, take, drop, length-append}
use lib.Seq.{take_all, take_at, drop_at, length-take-le}
use borrow.Rule.Slice.PartMut.{put_mid, post_of}
use Rattle.std.proofs.Common.{Option, None, Some, take-append-drop}
use Rattle.std.proofs.Math.ListN.{drop_of_length-le}
use Rattle.std.proofs.lemmas.List.{take-append-le}
use Rattle.console.specs.Input.{TakesAll}
use Rattle.cutting.specs.Cutting.{wanted_of}
use Rattle.cutting.proofs.Reading.{few_wanted, wanted-head}
use Rattle.nation.specs.Turns.{TakesWanted}

-- what stands in front is the first n of it, where there is no more of it or it is n
cut_at : (x u : List ℕ) (n : ℕ) → length x ≤ n → (length x < n → u ≡ []) → (take n (x ++ u) ≡ x) × (drop n (x ++ u) ≡ u)
cut_at x u n l e = by (dec_lt (length x) n)
  where
    by : Dec (length x < n) → (take n (x ++ u) ≡ x) × (drop n (x ++ u) ≡ u)
    by (yes h) =
        let s : x ++ u ≡ x = ap (λ y. x ++ y) (e h) ∙ append-nil x in
        (ap (take n) s ∙ take_all n x l, ap (drop n) s ∙ drop_of_length-le x l ∙ sym (e h))
    by (no h) = let k : length x ≡ n = omega arith in (take_at x u n k, drop_at x u n k)

pub head_ends : (before after : Option (List ℕ)) (h : ℕ) (head behind : List ℕ) → length head ≡ 6 → h < 6 → TakesAll before after h head
    → TakesWanted before after (take h (head ++ behind))
head_ends None after h head behind l k t = tt
head_ends (Some s) None h head behind l k t = absurd t.0
head_ends (Some s) (Some u) h head behind l k t =
    let x = take h head in
    let n : length x ≡ h = length-take-le h head (omega arith) in
    let e : u ≡ [] = t.1 (omega arith) in
    let whole : s ≡ x = t.0 ∙ ap (λ y. x ++ y) e ∙ append-nil x in
    let few : wanted_of s ≡ 6 = few_wanted s (omega (arith, n, ap length whole)) in
    let seen : take h (head ++ behind) ≡ x = take-append-le h head behind (omega arith) in
    let long : length x ≤ wanted_of s = omega arith in
    let c = cut_at x u (wanted_of s) long (λ _. e) in
    (seen ∙ sym c.0 ∙ ap (take (wanted_of s)) (sym t.0), ap Some (sym c.1 ∙ ap (drop (wanted_of s)) (sym t.0)))

pub head_filled : (before mid after : Option (List ℕ)) (h n r m : ℕ) (head behind rest : List ℕ) → length head ≡ 6 → 6 ≤ h → TakesAll before mid h head
    → n ≡ wanted_of head → length rest ≡ n - 6 → 6 ≤ n → r ≤ length rest → TakesAll mid after r rest
    → m ≡ 6 + r → TakesWanted before after (take m (put_mid 6 (n - 6) (head ++ behind) rest))
head_filled None mid after h n r m head behind rest l g t w long-rest six k a sum = tt
head_filled (Some s) None after h n r m head behind rest l g t w long-rest six k a sum = absurd t.0
head_filled (Some s) (Some u) None h n r m head behind rest l g t w long-rest six k a sum = absurd a.0
head_filled (Some s) (Some u) (Some v) h n r m head behind rest l g t w long-rest six k a sum =
    let y = take r rest in
    let x = head ++ y in
    let front : take h head ≡ head = take_all h head (omega arith) in
    let s-is : s ≡ head ++ u = t.0 ∙ ap (λ z. z ++ u) front in
    let whole : s ≡ x ++ v = s-is ∙ ap (λ z. head ++ z) a.0 ∙ sym (append_assoc head y v) in
    let six-long : 6 ≤ length s = omega (arith, ap length s-is, length-append head u) in
    let first : take 6 s ≡ head = ap (take 6) s-is ∙ take_at head u 6 l in
    let wants : n ≡ wanted_of s = w ∙ ap wanted_of (sym first) ∙ wanted-head s six-long in
    let n-is : length x ≡ 6 + r = omega (arith, length-append head y, length-take-le r rest k) in
    let long : length x ≤ wanted_of s = omega arith in
    let c = cut_at x v (wanted_of s) long (λ h. a.1 (omega arith)) in
    let post = post_of 6 (n - 6) (head ++ behind) in
    let six-front : take 6 (head ++ behind) ≡ head = take_at head behind 6 l in
    let behind-it = drop r rest ++ post in
    let parts : rest ++ post ≡ y ++ behind-it = ap (λ z. z ++ post) (sym (take-append-drop r rest)) ∙ append_assoc y (drop r rest) post in
    let laid : put_mid 6 (n - 6) (head ++ behind) rest ≡ x ++ behind-it =
    ap (λ z. z ++ (rest ++ post)) six-front ∙ ap (λ z. head ++ z) parts ∙ sym (append_assoc head y behind-it) in
    let seen : take m (put_mid 6 (n - 6) (head ++ behind) rest) ≡ x = ap (take m) laid ∙ take_at x behind-it m (n-is ∙ sym sum) in
    (seen ∙ sym c.0 ∙ ap (take (wanted_of s)) (sym whole), ap Some (sym c.1 ∙ ap (drop (wanted_of s)) (sym whole)))
