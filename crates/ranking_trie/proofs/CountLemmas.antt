-- How many ballots have a ranking.
use Rattle.std.proofs.Common.{◌≡◌, ◌≢◌, ℕ, ◌+◌, ◌*◌, ◌<◌, ◌≤◌, List, [], ◌∷◌, ◌++◌, map, replicate}
use Rattle.std.proofs.Common.{nat_eq, cond, Bool, true, false, ◌&&◌, arith, refl, ap, sym, subst}
use Rattle.std.proofs.Common.{◌∙◌, length, get_or, drop}
use Rattle.std.specs.Cmp.Lexicographic.{pointwise}
use Rattle.std.proofs.lemmas.Bool.{eq-eqb, ne_eqb}
use Rattle.std.proofs.lemmas.List.{drop_more, drop_all}
use Rattle.std.proofs.lemmas.List.Folds.{sum_by-replicate}
use Rattle.std.proofs.lemmas.List.Sums.{sum_by-append, sum_by-cons}
use Rattle.ranking_trie.specs.Forest.{Forest, Empty, Grow}
use Rattle.ranking_trie.specs.Bag.{below, bag, IsRising}
use Rattle.ranking_trie.specs.BallotBag.{count_of}

-- 1 for a ballot with the ranking s
abbrev pub one_for : List ℕ → List ℕ → ℕ
one_for s r = cond (pointwise nat_eq r s) 1 0

pub count_of-append : (s : List ℕ) (xs ys : List (List ℕ)) → count_of s (xs ++ ys) ≡ count_of s xs + count_of s ys
count_of-append s xs ys = sum_by-append (one_for s) xs ys

pub count_of-cons : (s x : List ℕ) (xs : List (List ℕ)) → count_of s (x ∷ xs) ≡ one_for s x + count_of s xs
count_of-cons s x xs = sum_by-cons (one_for s) x xs

-- no ballot after a candidate names nobody
pub count_of-blank_map : (c : ℕ) (xs : List (List ℕ)) → count_of [] (map (λ r. c ∷ r) xs) ≡ 0
count_of-blank_map c [] = refl
count_of-blank_map c (x ∷ xs) = count_of-blank_map c xs

pub count_of-blank_bag : (f : Forest) → count_of [] (bag f) ≡ 0
count_of-blank_bag Empty = refl
count_of-blank_bag (Grow c n p inner next) =
    omega (
      arith,
      count_of-append [] (below c n (bag inner)) (bag next),
      count_of-blank_map c (replicate n [] ++ bag inner),
      count_of-blank_bag next,
    )

-- the ballots that name nobody stand before those of the forest
pub count_of_blank : (n : ℕ) (f : Forest) → count_of [] (replicate n [] ++ bag f) ≡ n
count_of_blank n f =
    omega (
      arith,
      count_of-append [] (replicate n []) (bag f),
      sum_by-replicate (one_for []) n [],
      count_of-blank_bag f,
    )

-- ballots that begin with another candidate have another ranking
pub count_of-other : (c d : ℕ) (s : List ℕ) (xs : List (List ℕ)) → d ≢ c → count_of (c ∷ s) (map (λ r. d ∷ r) xs) ≡ 0
count_of-other c d s [] other = refl
count_of-other c d s (x ∷ xs) other =
    let differ : nat_eq d c ≡ false = ne_eqb d c other in
    let here : one_for (c ∷ s) (d ∷ x) ≡ 0 = ap (λ (b : Bool). cond (b && pointwise nat_eq x s) 1 0) differ in
    omega (arith, here, count_of-cons (c ∷ s) (d ∷ x) (map (λ (r : List ℕ). d ∷ r) xs), count_of-other c d s xs other)

-- ballots that begin with the same candidate have the same ranking where what follows is the same
pub count_of-same : (c : ℕ) (s : List ℕ) (xs : List (List ℕ)) → count_of (c ∷ s) (map (λ r. c ∷ r) xs) ≡ count_of s xs
count_of-same c s [] = refl
count_of-same c s (x ∷ xs) =
    let same : nat_eq c c ≡ true = eq-eqb c c refl in
    let here : one_for (c ∷ s) (c ∷ x) ≡ one_for s x = ap (λ (b : Bool). cond (b && pointwise nat_eq x s) 1 0) same in
    omega (
      arith,
      here,
      count_of-cons (c ∷ s) (c ∷ x) (map (λ (r : List ℕ). c ∷ r) xs),
      count_of-cons s x xs,
      count_of-same c s xs,
    )

-- no sibling after a candidate has its ballots
pub count_of-rising : (c low : ℕ) (s : List ℕ) (f : Forest) → c ≤ low → IsRising low f → count_of (c ∷ s) (bag f) ≡ 0
count_of-rising c low s Empty less rising = refl
count_of-rising c low s (Grow d n p inner next) less rising =
    let above : low < d = rising.0 in
    let here = count_of-other c d s (replicate n [] ++ bag inner) (omega arith) in
    omega (
      arith,
      here,
      count_of-append (c ∷ s) (below d n (bag inner)) (bag next),
      count_of-rising c d s next (omega arith) rising.3,
    )

-- where a candidate's ballots are among siblings: at its node,
pub node_has :
    (c d n : ℕ) (s : List ℕ) (inner next : Forest) → c ≡ d → IsRising d next
    → count_of s (replicate n [] ++ bag inner) ≡ count_of (c ∷ s) (below d n (bag inner) ++ bag next)
node_has c d n s inner next same rising =
    subst (λ (e : ℕ). count_of s (replicate n [] ++ bag inner)
    ≡ count_of (e ∷ s) (below d n (bag inner) ++ bag next)) (sym same)
    (omega (
      arith,
      count_of-append (d ∷ s) (below d n (bag inner)) (bag next),
      count_of-same d s (replicate n [] ++ bag inner),
      count_of-rising d d s next (omega arith) rising,
    ))

-- after another's,
pub behind_has :
    (c d n : ℕ) (s : List ℕ) (inner next : Forest) → d < c
    → count_of (c ∷ s) (bag next) ≡ count_of (c ∷ s) (below d n (bag inner) ++ bag next)
behind_has c d n s inner next less =
    omega (
      arith,
      count_of-append (c ∷ s) (below d n (bag inner)) (bag next),
      count_of-other c d s (replicate n [] ++ bag inner) (omega arith),
    )

-- and nowhere where the first is above it
pub none_has :
    (c d n : ℕ) (s : List ℕ) (inner next : Forest) → c < d → IsRising d next
    → count_of (c ∷ s) (below d n (bag inner) ++ bag next) ≡ 0
none_has c d n s inner next less rising =
    omega (
      arith,
      count_of-append (c ∷ s) (below d n (bag inner)) (bag next),
      count_of-other c d s (replicate n [] ++ bag inner) (omega arith),
      count_of-rising c d s next (omega arith) rising,
    )

-- a ranking that goes on has its ballots below
pub count_of-deeper :
    (d n : ℕ) (s : List ℕ) (f : Forest)
    → count_of (d ∷ s) (replicate n [] ++ bag f) ≡ count_of (d ∷ s) (bag f)
count_of-deeper d n s f =
    omega (arith, count_of-append (d ∷ s) (replicate n []) (bag f), sum_by-replicate (one_for (d ∷ s)) n [])

-- the ballots that have the ranks from a place on are below the node where there are some,
pub count_of-inside :
    (ranks : List ℕ) (at n : ℕ) (f : Forest) → at < length ranks
    → count_of (drop at ranks) (replicate n [] ++ bag f) ≡ count_of (drop at ranks) (bag f)
count_of-inside ranks at n f inside =
    let next : drop at ranks ≡ get_or ranks at 0 ∷ drop (at + 1) ranks = drop_more ranks at 0 inside in
    subst (λ (r : List ℕ). count_of r (replicate n [] ++ bag f) ≡ count_of r (bag f)) (sym next)
    (count_of-deeper (get_or ranks at 0) n (drop (at + 1) ranks) f)

-- and end at it where there are none
pub count_of-end :
    (ranks : List ℕ) (at n : ℕ) (f : Forest) → length ranks ≤ at
    → count_of (drop at ranks) (replicate n [] ++ bag f) ≡ n
count_of-end ranks at n f past =
    ap (λ (r : List ℕ). count_of r (replicate n [] ++ bag f)) (drop_all at ranks past) ∙ count_of_blank n f

-- each of equal ballots has their ranking
pub one_for-own : (r : List ℕ) → one_for r r ≡ 1
one_for-own [] = refl
one_for-own (c ∷ r) =
    let same : nat_eq c c ≡ true = eq-eqb c c refl in
    ap (λ (b : Bool). cond (b && pointwise nat_eq r r) 1 0) same ∙ one_for-own r

pub count_of-own : (n : ℕ) (r : List ℕ) → count_of r (replicate n r) ≡ n
count_of-own n r = sum_by-replicate (one_for r) n r ∙ (ap (λ (m : ℕ). n * m) (one_for-own r) ∙ omega arith)
