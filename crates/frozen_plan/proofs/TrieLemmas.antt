-- The shape of a trie's nodes.
use Rattle.std.proofs.Common.{◌≡◌, ℕ, ◌+◌, ◌≤◌, List, [], ◌++◌, length, replicate, arith, refl, ap, sym, ◌∙◌}
use Rattle.std.proofs.lemmas.List.{length-append, length-replicate}
use Rattle.ranking_trie.specs.Forest as trie
use Rattle.ranking_trie.specs.Forest.{Empty, Grow}
use Rattle.ranking_trie.specs.Bag.{bag, below, IsRising, IsWithin}
use Rattle.ranking_trie.specs.BallotBag.{BallotBag}
use Rattle.frozen_plan.specs.Forest.{Forest, Bare, Grown, ballots_of, through, IsGrown}
use Rattle.frozen_plan.specs.Shape.{shape_of}
use Rattle.frozen_plan.specs.Plan.{plan_rows}
use Rattle.frozen_plan.specs.Rows.{AreRowsOf}
use Rattle.frozen_plan.proofs.ReadLemmas.{length-ballots_of, plan_of_rows, ballots_of_rows}

-- the nodes have the trie's ballots
pub ballots_of-shape : (f : trie.Forest) → ballots_of (shape_of f) ≡ bag f
ballots_of-shape Empty = refl
ballots_of-shape (Grow c n p inner next) =
    ap (λ (low : List (List ℕ)). below c n low ++ ballots_of (shape_of next)) (ballots_of-shape inner)
    ∙ ap (λ (rest : List (List ℕ)). below c n (bag inner) ++ rest) (ballots_of-shape next)

-- and as many
pub through-shape : (f : trie.Forest) → through (shape_of f) ≡ length (bag f)
through-shape f = sym (length-ballots_of (shape_of f)) ∙ ap length (ballots_of-shape f)

-- siblings rise, each node has a ballot and none is too deep
pub grown : (n low d : ℕ) (f : trie.Forest) → IsRising low f → IsWithin n 250 d f → IsGrown n low d (shape_of f)
grown n low d Empty rising within = tt
grown n low d (Grow c k p inner next) rising within = (
  rising.0,
  within.1,
  within.2,
  omega (arith, rising.1, through-shape inner),
  grown n 0 (d + 1) inner rising.2 within.3,
  grown n c d next rising.3 within.4,
)

-- how many ballots a trie has
pub all_ballots :
    (t : BallotBag) (ends : ℕ) (f : trie.Forest) → t.ballots ≡ replicate ends [] ++ bag f
    → length t.ballots ≡ ends + through (shape_of f)
all_ballots t ends f ballots =
    let none : List (List ℕ) = replicate ends [] in
    omega (arith, ap length ballots, length-append none (bag f), length-replicate {A = List ℕ} ends [], through-shape f)

-- The rows of a trie's root and of its nodes stand for its ballots.
pub rows_of_trie :
    (t : BallotBag) (ends : ℕ) (f : trie.Forest) → t.candidates ≤ 250 → length t.ballots ≤ 999999999
    → t.ballots ≡ replicate ends [] ++ bag f → IsRising 0 f → IsWithin t.candidates 250 1 f
    → AreRowsOf t (plan_rows ends (shape_of f))
rows_of_trie t ends f limit few ballots rising within = record {
  plan =
      plan_of_rows t.candidates ends (shape_of f) limit (grown t.candidates 0 1 f rising within)
      (omega (arith, few, all_ballots t ends f ballots));
  ballots =
      ballots_of_rows ends (shape_of f)
      ∙ (ap (λ (l : List (List ℕ)). replicate ends [] ++ l) (ballots_of-shape f) ∙ sym ballots);
}

-- fewer candidates are among more
pub grown_more : (n m low d : ℕ) (f : Forest) → n ≤ m → IsGrown n low d f → IsGrown m low d f
grown_more n m low d Bare le is = tt
grown_more n m low d (Grown c k inner next) le is =
    let known : c ≤ n = is.1 in
    (is.0, omega arith, is.2, is.3, grown_more n m 0 (d + 1) inner le is.4, grown_more n m c d next le is.5)
