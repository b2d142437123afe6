-- How many moves there are, and which is the last.
use Rattle.std.proofs.Common.{◌≡◌, ℕ, ◌+◌, ◌-◌, ◌<◌, ◌^◌, min, List, [], ◌∷◌, ◌++◌, length, Option, Some}
use Rattle.std.proofs.Common.{refl, ap, sym, ◌∙◌, arith, length-append}
use Rattle.tally_board.specs.declared.ballot_move.Move.{Move}
use Rattle.tally_board.specs.Told.{front, IsCounted}

pub front_push : (ms : List Move) (m : Move) → front (ms ++ m ∷ []) ≡ ms
front_push [] m = refl
front_push (x ∷ []) m = refl
front_push (x ∷ (y ∷ ms)) m = ap (λ zs. x ∷ zs) (front_push (y ∷ ms) m)

-- a list that ends in m ends in m after all but its last
pub with_last : (ms rest : List Move) (m : Move) → ms ≡ rest ++ m ∷ [] → ms ≡ front ms ++ m ∷ []
with_last ms rest m e = e ∙ (ap (λ xs. xs ++ m ∷ []) (sym (front_push rest m)) ∙ ap (λ xs. front xs ++ m ∷ []) (sym e))

-- one more
pub counts :
    (n k : ℕ) (last : Option Move) (ms more : List Move) (m : Move) → IsCounted n last ms
    → k ≡ min (n + 1) 18446744073709551615 → more ≡ ms ++ m ∷ [] → IsCounted k (Some m) more
counts n k last ms more m h is e small =
    let was : n < 2 ^ 64 - 1 = omega arith in
    let long : length more ≡ length ms + 1 = ap length e ∙ length-append ms (m ∷ []) in
    let same : n ≡ length ms = (h was).0 in
    (omega arith, with_last more ms m e)
