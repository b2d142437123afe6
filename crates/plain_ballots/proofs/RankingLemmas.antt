-- A ranking that grows by one candidate, and how long rankings are.
use Rattle.std.proofs.Common.{◌≡◌, ◌≢◌, ℕ, ◌+◌, ◌<◌, ◌≤◌, List, ◌∷◌, length, get_or, take, zero, suc, true, eqb, arith}
use Rattle.std.specs.List.{IsDistinct, Any}
use Rattle.std.proofs.lemmas.Bool.{eqb-true, ne_eqb}
use Rattle.std.proofs.lemmas.List.{take_more}
use Rattle.std.proofs.lemmas.List.Elements.{All-more}
use Rattle.std.proofs.lemmas.List.Folds.{Any-from_list_any}
use Rattle.std.proofs.lemmas.List.Quantifiers.{all_pairs_push}
use Rattle.std.proofs.lemmas.Map.Keys.{IsDistinct-from_apart}
use Rattle.std.proofs.lemmas.Map.Steps.{length-le_from_distinct_below}
use Rattle.plain_ballots.specs.Ranking.{IsRanking}

-- one more candidate, who didn't stand before
pub ranking_more :
    (n : ℕ) (ranks : List ℕ) (i : ℕ) → IsRanking n (take i ranks) → i < length ranks
    → (1 ≤ get_or ranks i 0) × (get_or ranks i 0 ≤ n)
    → ((k : ℕ) (d : ℕ) → k < length (take i ranks) → get_or (take i ranks) k d ≢ get_or ranks i 0)
    → IsRanking n (take (i + 1) ranks)
ranking_more n ranks i sound below candidate new = record {
  numbers = All-more (λ (r : ℕ). (1 ≤ r) × (r ≤ n)) ranks i 0 below sound.numbers candidate;
  different =
      rw (take_more ranks i 0 below)
      (all_pairs_push (λ (a b : ℕ). a ≢ b) (take i ranks) (get_or ranks i 0) sound.different new);
}

-- a ranking with 0 in front of it
with_zero :
    (n : ℕ) (ranks : List ℕ) → IsRanking n ranks → (i j : ℕ) (d : ℕ) → i < j → j < length (0 ∷ ranks)
    → get_or (0 ∷ ranks) i d ≢ get_or (0 ∷ ranks) j d
with_zero n ranks ranking i zero d less inside = absurd (omega arith)
with_zero n ranks ranking zero (suc j) d less inside = λ e. absurd (omega (arith, (ranking.numbers j d (omega arith)).0))
with_zero n ranks ranking (suc i) (suc j) d less inside = ranking.different i j d (omega arith) (omega arith)

zero_below :
    (n : ℕ) (ranks : List ℕ) → IsRanking n ranks → (k : ℕ) (d : ℕ) → k < length (0 ∷ ranks)
    → get_or (0 ∷ ranks) k d < n + 1
zero_below n ranks ranking zero d inside = omega arith
zero_below n ranks ranking (suc k) d inside = omega (arith, (ranking.numbers k d (omega arith)).1)

-- a ranking of n candidates has at most n
pub length-IsRanking : (n : ℕ) (ranks : List ℕ) → IsRanking n ranks → length ranks ≤ n
length-IsRanking n ranks ranking =
    let different : IsDistinct eqb (0 ∷ ranks) =
    IsDistinct-from_apart eqb (0 ∷ ranks) (λ i j d less inside.
    ne_eqb (get_or (0 ∷ ranks) i d) (get_or (0 ∷ ranks) j d)
    (with_zero n ranks ranking i j d less inside)) in
    let few : length (0 ∷ ranks) ≤ n + 1 =
    length-le_from_distinct_below (0 ∷ ranks) (n + 1) different
    (λ q among.
    let a : Any (λ x. eqb q x ≡ true) (0 ∷ ranks) = Any-from_list_any (eqb q) (0 ∷ ranks) among in
    let same : q ≡ a.1 = eqb-true q a.1 a.4 in
    let less : get_or (0 ∷ ranks) a.0 a.1 < n + 1 = zero_below n ranks ranking a.0 a.1 a.2 in
    let at : get_or (0 ∷ ranks) a.0 a.1 ≡ a.1 = a.3 in
    omega arith) in
    omega arith
