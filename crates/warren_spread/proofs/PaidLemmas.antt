-- What ballots pay, node by node.
use Rattle.std.proofs.Common.{◌≡◌, ℕ, ◌+◌, ◌-◌, ◌*◌, ◌≤◌, ◌==◌, cond, List, [], ◌∷◌, ◌++◌, length}
use Rattle.std.proofs.Common.{map, replicate, arith, refl, ap, ◌∙◌, zero, suc, zero-add}
use Rattle.std.specs.List.{All}
use Rattle.std.proofs.Math.Nat.{add-mul}
use Rattle.std.proofs.lemmas.List.{length-append, length-replicate}
use Rattle.std.proofs.lemmas.List.Sums.{sum_by-append, sum_by-cons}
use Rattle.frozen_plan.specs.Forest.{Forest, Grown, ballots_of, through}
use Rattle.frozen_plan.proofs.ReadLemmas.{length-ballots_of}
use Rattle.meek_rule.specs.Rule.{Warren}
use Rattle.meek_rule.specs.Weights.{kept_under, given_under, vote_under}
use Rattle.meek_rule.proofs.WeightLemmas.{given_under-le, given_under-nothing}
use Rattle.warren_spread.specs.Paid.{paid}

-- Of how many units one vote is makes no difference to what a ballot pays.
any_scale :
    (s : ℕ) (prices : List ℕ) (w : ℕ) (ranks : List ℕ) (c : ℕ)
    → given_under Warren s prices w ranks c ≡ given_under Warren 1 prices w ranks c
any_scale s prices w [] c = refl
any_scale s prices w (r ∷ ranks) c =
    let part = kept_under Warren 1 prices w r in
    ap (λ (m : ℕ). cond (r == c) part 0 + m) (any_scale s prices (w - part) ranks c)

-- the vote of a candidate is what all ballots, each with one vote, pay to it
pub vote-paid :
    (s : ℕ) (prices : List ℕ) (ballots : List (List ℕ)) (c : ℕ)
    → vote_under Warren s prices ballots c ≡ paid prices s ballots c
vote-paid s prices [] c = refl
vote-paid s prices (b ∷ ballots) c =
    let one = sum_by-cons (λ (r : List ℕ). given_under Warren s prices s r c) b ballots in
    let other = sum_by-cons (λ (r : List ℕ). given_under Warren 1 prices s r c) b ballots in
    omega (arith, any_scale s prices s b c, vote-paid s prices ballots c)

-- ballots that have nothing left pay nothing
pub paid-nothing : (prices : List ℕ) (ballots : List (List ℕ)) (c : ℕ) → paid prices 0 ballots c ≡ 0
paid-nothing prices [] c = refl
paid-nothing prices (b ∷ ballots) c =
    sum_by-cons (λ (r : List ℕ). given_under Warren 1 prices 0 r c) b ballots
    ∙ omega (arith, given_under-nothing Warren 1 prices b c (omega arith), paid-nothing prices ballots c)

-- no candidate is paid more than one vote of each ballot
pub paid-le :
    (s : ℕ) (prices : List ℕ) (ballots : List (List ℕ)) (c : ℕ) → 1 ≤ s → All (λ k. k ≤ s) prices
    → paid prices s ballots c ≤ length ballots * s
paid-le s prices [] c pos bound = omega arith
paid-le s prices (b ∷ ballots) c pos bound =
    let split = sum_by-cons (λ (r : List ℕ). given_under Warren 1 prices s r c) b ballots in
    let one : length (b ∷ ballots) ≡ length ballots + 1 = omega arith in
    let more : length (b ∷ ballots) * s ≡ length ballots * s + s =
    ap (λ n. n * s) one ∙ (add-mul (length ballots) 1 s ∙ omega arith) in
    omega (
      arith,
      any_scale s prices s b c,
      given_under-le Warren s prices s b c pos bound,
      paid-le s prices ballots c pos bound,
    )

-- ballots that begin with candidate k
paid-below :
    (prices : List ℕ) (rest k c : ℕ) (xs : List (List ℕ))
    → paid prices rest (map (λ r. k ∷ r) xs) c
    ≡ length xs * cond (k == c) (kept_under Warren 1 prices rest k) 0
    + paid prices (rest - kept_under Warren 1 prices rest k) xs c
paid-below prices rest k c [] = omega arith
paid-below prices rest k c (x ∷ xs) =
    let part = kept_under Warren 1 prices rest k in
    let here = cond (k == c) part 0 in
    let a = sum_by-cons (λ (r : List ℕ). given_under Warren 1 prices rest r c) (k ∷ x) (map (λ r. k ∷ r) xs) in
    let b = sum_by-cons (λ (r : List ℕ). given_under Warren 1 prices (rest - part) r c) x xs in
    let one : length (x ∷ xs) ≡ length xs + 1 = omega arith in
    let more : length (x ∷ xs) * here ≡ length xs * here + here =
    ap (λ q. q * here) one ∙ (add-mul (length xs) 1 here ∙ omega arith) in
    omega (arith, paid-below prices rest k c xs)

-- ballots that name nobody pay nothing
pub paid-ends :
    (prices : List ℕ) (rest c n : ℕ) (xs : List (List ℕ))
    → paid prices rest (replicate n [] ++ xs) c ≡ paid prices rest xs c
paid-ends prices rest c zero xs = refl
paid-ends prices rest c (suc n) xs =
    sum_by-cons (λ (r : List ℕ). given_under Warren 1 prices rest r c) [] (replicate n [] ++ xs)
    ∙ (zero-add _ ∙ paid-ends prices rest c n xs)

-- siblings after siblings
pub paid-append :
    (prices : List ℕ) (rest c : ℕ) (xs ys : List (List ℕ))
    → paid prices rest (xs ++ ys) c ≡ paid prices rest xs c + paid prices rest ys c
paid-append prices rest c xs ys = sum_by-append (λ (r : List ℕ). given_under Warren 1 prices rest r c) xs ys

-- a node of candidate k at which n ballots end, with those below it, and the siblings after it
pub paid-grown :
    (prices : List ℕ) (rest c k n : ℕ) (inner next : Forest)
    → paid prices rest (ballots_of (Grown k n inner next)) c
    ≡ (n + through inner) * cond (k == c) (kept_under Warren 1 prices rest k) 0
    + paid prices (rest - kept_under Warren 1 prices rest k) (ballots_of inner) c
    + paid prices rest (ballots_of next) c
paid-grown prices rest c k n inner next =
    let part = kept_under Warren 1 prices rest k in
    let share = cond (k == c) part 0 in
    let ended : List (List ℕ) = replicate n [] in
    let xs : List (List ℕ) = ended ++ ballots_of inner in
    let many : length xs ≡ n + through inner =
    omega (
      arith,
      length-append ended (ballots_of inner),
      length-replicate {A = List ℕ} n [],
      length-ballots_of inner,
    ) in
    let all : length xs * share ≡ (n + through inner) * share = ap (λ q. q * share) many in
    omega (
      arith,
      paid-append prices rest c (map (λ r. k ∷ r) xs) (ballots_of next),
      paid-below prices rest k c xs,
      paid-ends prices (rest - part) c n (ballots_of inner),
    )
