-- A file made of returns end to end is cut into them again. Assumes nothing.
--     said-front    a header's number of blocks is that of the piece in front
--     piece_next    a piece in front of anything comes next, whole
--     cut-behind    behind pieces end to end the cutting goes on with what is left
--     whole_file    pieces end to end, no more than are allowed, are all cut, and the file is whole; cut_stopped, or stopped by what stands behind them
use Rattle.std.specs.Prelude.{Result, Ok, Err}
use Prim.Native.Nat.{ℕ, zero, suc, ◌+◌, ◌-◌, ◌*◌, ◌<◌, ◌≤◌}
use mathlib.Core.Path.{◌≡◌, refl, sym, ap, ◌∙◌}
use mathlib.Core.List.{List, [], ◌∷◌, ◌++◌, append-nil, append_assoc}
use native.Mathlib.Omega.{arith}
use borrow.Author.Tests.{lt-ltb, le-ltb}
use lib.ListN.{length, drop, length-append, get_or-append}
use lib.Seq.{take-append_seam, drop-append_seam}
use Rattle.form.specs.Block.{blocks_said}
use Rattle.form.proofs.Numbers.{number_2}
use Rattle.cutting.specs.Cutting.{most_returns, next_of, end_of, next_after, Cut, stopped_by, behind, cut_by, cut_from, cut_file, Piece, Pieces, end_to_end}
use Rattle.cutting.specs.declared.Stop.{Stop}
use Rattle.cutting.specs.declared.Stop.TheVariants.{Whole}
use Rattle.cutting.proofs.Laws.{piece_there, header_read}

pub said-front : (r t : List ℕ) → 6 ≤ length r → blocks_said (r ++ t) 0 ≡ blocks_said r 0
said-front r t h = number_2 (r ++ t) 4 ∙ rw (get_or-append r t 0 4 (omega arith), get_or-append r t 0 5 (omega arith)) (sym (number_2 r 4))

pub piece_next : (r t : List ℕ) → Piece r → next_of (r ++ t) ≡ Ok (length r)
piece_next r t p =
    let said = said-front r t (omega arith) in
    let n = length-append r t in
    let e : Ok (512 * blocks_said (r ++ t) 0) ≡ next_of (r ++ t) =
    header_read (r ++ t) (λ z. omega (arith, n, z)) (omega (arith, n)) (piece_there (blocks_said (r ++ t) 0) (length (r ++ t)) (λ z. omega (arith, z, said)) (omega (arith, said)) (omega (arith, said, n))) in
    sym e ∙ ap Ok (ap (λ (x : ℕ). 512 * x) said ∙ sym p.long)

-- behind them the cutting goes on as if these bytes were by themselves, with so many returns less allowed
pub cut-behind : (m k : ℕ) (rs : List (List ℕ)) (t : List ℕ) → Pieces rs → m ≡ length rs + k → let c = cut_from k t in cut_from m (end_to_end rs ++ t) ≡ record { returns = rs ++ c.returns; stop = c.stop }
unfolding cut_from end_to_end Pieces
cut-behind m k [] t p h = let e : m ≡ k = omega arith in ap (λ (n : ℕ). cut_from n t) e
cut-behind zero k (r ∷ rs) t p h = absurd (omega arith)
cut-behind (suc m) k (r ∷ rs) t p h =
    let u = end_to_end rs ++ t in
    ap (λ (s : List ℕ). cut_from (suc m) s) (append_assoc r (end_to_end rs) t)
    ∙ ap (λ (x : Result ℕ Stop). cut_by (r ++ u) x (λ n. cut_from m (drop n (r ++ u)))) (piece_next r u p.0)
    ∙ ap (λ (x : List ℕ). behind x (cut_from m (drop (length r) (r ++ u)))) (take-append_seam r u)
    ∙ ap (λ (x : List ℕ). behind r (cut_from m x)) (drop-append_seam r u)
    ∙ ap (behind r) (cut-behind m k rs t p.1 (omega arith))

nothing_left : (k : ℕ) → cut_from k [] ≡ record { returns = []; stop = Whole }
unfolding cut_from next_of end_of
nothing_left zero = refl
nothing_left (suc k) = refl

pub whole_file : (k : ℕ) (rs : List (List ℕ)) → Pieces rs → length rs ≤ k → cut_from k (end_to_end rs) ≡ record { returns = rs; stop = Whole }
whole_file k rs p h =
    let j = k - length rs in
    ap (cut_from k) (sym (append-nil (end_to_end rs)))
    ∙ cut-behind k j rs [] p (omega arith)
    ∙ ap (λ (c : Cut). record { returns = rs ++ c.returns; stop = c.stop }) (nothing_left j)
    ∙ ap (λ (x : List (List ℕ)). record { returns = x; stop = Whole }) (append-nil rs)

-- and where no return comes next, what came before is what is cut
none_next : (j n : ℕ) (t : List ℕ) (w : Stop) → n + j ≡ most_returns → next_after n t ≡ Err w → cut_from j t ≡ stopped_by w
unfolding cut_from
none_next zero n t w h e =
    let o : most_returns ≤ n = omega arith in
    ap (λ (x : Result ℕ Stop). cut_by t x (λ m. stopped_by w)) (rw (le-ltb n most_returns o) at e)
none_next (suc j) n t w h e =
    let o : n < most_returns = omega arith in
    ap (λ (x : Result ℕ Stop). cut_by t x (λ m. cut_from j (drop m t))) (rw (lt-ltb n most_returns o) at e)

pub cut_stopped : (rs : List (List ℕ)) (t : List ℕ) (w : Stop) → Pieces rs → length rs ≤ most_returns → next_after (length rs) t ≡ Err w
    → cut_file (end_to_end rs ++ t) ≡ record { returns = rs; stop = w }
cut_stopped rs t w p h e =
    let j = most_returns - length rs in
    cut-behind most_returns j rs t p (omega arith)
    ∙ ap (λ (c : Cut). record { returns = rs ++ c.returns; stop = c.stop }) (none_next j (length rs) t w (omega arith) e)
    ∙ ap (λ (x : List (List ℕ)). record { returns = x; stop = w }) (append-nil rs)
