-- How deep a trie is.
use Rattle.std.proofs.Common.{◌≡◌, ℕ, ◌+◌, ◌<◌, ◌≤◌, List, [], ◌∷◌, ◌++◌, length, get_or, replicate}
use Rattle.std.proofs.Common.{append_assoc, arith, refl, sym, subst}
use Rattle.std.specs.List.{All}
use Rattle.std.proofs.lemmas.List.{get_or_at, length-append, length-replicate}
use Rattle.plain_ballots.specs.Ranking.{IsRanking}
use Rattle.plain_ballots.proofs.RankingLemmas.{length-IsRanking}
use Rattle.ranking_trie.proofs.ListLemmas.{All-left, All-right, All-unmap}
use Rattle.ranking_trie.specs.Forest.{Forest, Empty, Grow}
use Rattle.ranking_trie.specs.Bag.{below, bag, IsRising, IsWithin}

-- a way down to a candidate, and on
step_down : (p r : List ℕ) (c : ℕ) → p ++ c ∷ r ≡ (p ++ c ∷ []) ++ r
step_down p r c = sym (append_assoc p (c ∷ []) r)

-- a node whose ballots are rankings is of a candidate, and no deeper than there are candidates
node_within : (n : ℕ) (p r : List ℕ) (c : ℕ) → IsRanking n (p ++ c ∷ r) → (1 ≤ c) × (c ≤ n) × (length p + 1 ≤ n)
node_within n p r c ranking =
    let long : length (p ++ c ∷ r) ≡ length p + length (c ∷ r) = length-append p (c ∷ r) in
    let few = length-IsRanking n (p ++ c ∷ r) ranking in
    let number = ranking.numbers (length p) c (omega arith) in
    let at : get_or (p ++ c ∷ r) (length p) c ≡ c = get_or_at p c r c (length p) refl in
    (omega (arith, number.0), omega (arith, number.1), omega arith)

-- below a way p down, from rankings
pub within :
    (n : ℕ) (p : List ℕ) (low : ℕ) (f : Forest) → n ≤ 250 → IsRising low f
    → All (λ r. IsRanking n (p ++ r)) (bag f) → IsWithin n 250 (length p + 1) f
within n p low Empty few rising rankings = tt
within n p low (Grow c k q inner next) few rising rankings =
    let rest = replicate k [] ++ bag inner in
    let here =
    All-unmap (λ r. IsRanking n (p ++ r)) (λ (r : List ℕ). c ∷ r) rest
    (All-left (λ r. IsRanking n (p ++ r)) (below c k (bag inner)) (bag next) rankings) in
    let some : 1 ≤ k + length (bag inner) = rising.1 in
    let many : 0 < length rest =
    omega (
      arith,
      length-append {A = List ℕ} (replicate k []) (bag inner),
      length-replicate {A = List ℕ} k [],
    ) in
    let node = node_within n p (get_or rest 0 []) c (here 0 [] many) in
    let one : length (p ++ c ∷ []) ≡ length p + 1 = length-append p (c ∷ []) in
    let deeper : All (λ r. IsRanking n ((p ++ c ∷ []) ++ r)) (bag inner) =
    λ d e inside. subst (IsRanking n) (step_down p (get_or (bag inner) d e) c)
    (All-right (λ r. IsRanking n (p ++ c ∷ r)) (replicate k []) (bag inner) here d e inside) in (
      node.0,
      node.1,
      omega (arith, node.2),
      subst (λ (d : ℕ). IsWithin n 250 (d + 1) inner) one (within n (p ++ c ∷ []) 0 inner few rising.2 deeper),
      within n p c next few rising.3 (All-right (λ r. IsRanking n (p ++ r)) (below c k (bag inner)) (bag next) rankings),
    )
