-- The shares of all shards are together all ballots.
use Rattle.std.proofs.Common.{All, ◌≡◌, ◌≢◌, ℕ, suc, zero, ◌+◌, ◌%◌, ◌≤◌, ◌<◌, ◌==◌, List, [], ◌∷◌, ◌++◌}
use Rattle.std.proofs.Common.{length, get_or, take, replicate, true, false, refl, sym, ap, ◌∙◌, subst, ⊎_elim}
use Rattle.std.proofs.Common.{arith, append_assoc, append-nil, length-take, mod-lt}
use Rattle.std.specs.List.{flat_map, range_with_len}
use Rattle.std.specs.List.Sorted.{IsPermutation}
use Rattle.std.proofs.lemmas.Bool.Decides.{eqb_tells}
use Rattle.std.proofs.lemmas.List.{take_more, length-replicate}
use Rattle.std.proofs.lemmas.List.Sorted.{length_permutation, IsPermutation-refl, IsPermutation-trans}
use Rattle.std.proofs.lemmas.List.Sorted.{IsPermutation-append, IsPermutation-append_right}
use Rattle.ranking_trie.proofs.BagLemmas.{IsPermutation-shift}
use Rattle.plain_ballots.specs.declared.ballot_line.BallotLine.{BallotLine}
use Rattle.plain_ballots.specs.Ballots.{plain, ballot_count}
use Rattle.frozen_plan.specs.Plan.{PlanRows, plan_ballots, all_ballots}
use Rattle.frozen_plan.specs.Dealing.{dealt, share, AreOfShares}

-- no shard after the one that gets the line has any of it
none_behind :
    (piece : ℕ → List (List ℕ)) (k : ℕ) → ((s : ℕ) → s ≢ k → piece s ≡ []) → (n s : ℕ) → k < s
    → flat_map piece (range_with_len s n) ≡ []
none_behind piece k other zero s lt = refl
none_behind piece k other (suc n) s lt =
    ap (λ (l : List (List ℕ)). l ++ flat_map piece (range_with_len (s + 1) n)) (other s (λ e. omega arith))
    ∙ none_behind piece k other n (s + 1) (omega arith)

-- one shard gets all of a line
one_gets :
    (piece : ℕ → List (List ℕ)) (k : ℕ) → ((s : ℕ) → s ≢ k → piece s ≡ []) → (n s : ℕ) → s ≤ k → k < s + n
    → flat_map piece (range_with_len s n) ≡ piece k
one_gets piece k other zero s le lt = absurd (omega arith)
one_gets piece k other (suc n) s le lt = ⊎_elim
    (λ (here : ((s == k) ≡ true) × (s ≡ k)).
    let e = here.1 in
    ap (λ (l : List (List ℕ)). piece s ++ l) (none_behind piece k other n (s + 1) (omega arith))
    ∙ (append-nil (piece s) ∙ ap piece here.1))
    (λ (there : ((s == k) ≡ false) × (s ≢ k)).
    let ne = there.1 in
    ap (λ (l : List (List ℕ)). l ++ flat_map piece (range_with_len (s + 1) n)) (other s ne)
    ∙ one_gets piece k other n (s + 1) (omega arith) (omega arith))
    (eqb_tells s k)

pub dealt_here : (n i : ℕ) (line : BallotLine) → dealt n (i % n + 1) i line ≡ replicate line.count line.ranking
dealt_here n i line = ⊎_elim
    (λ (same : ((i % n + 1 == i % n + 1) ≡ true) × (i % n + 1 ≡ i % n + 1)). rw same.0 refl)
    (λ (other : ((i % n + 1 == i % n + 1) ≡ false) × (i % n + 1 ≢ i % n + 1)). absurd (other.1 refl))
    (eqb_tells (i % n + 1) (i % n + 1))

pub dealt_elsewhere : (n i : ℕ) (line : BallotLine) (s : ℕ) → s ≢ i % n + 1 → dealt n s i line ≡ []
dealt_elsewhere n i line s other = ⊎_elim
    (λ (same : ((i % n + 1 == s) ≡ true) × (i % n + 1 ≡ s)). absurd (other (sym same.1)))
    (λ (not : ((i % n + 1 == s) ≡ false) × (i % n + 1 ≢ s)). rw not.0 refl)
    (eqb_tells (i % n + 1) s)

-- all shards together get a line
line_dealt :
    (n i : ℕ) (line : BallotLine) → 1 ≤ n
    → flat_map (λ s. dealt n s i line) (range_with_len 1 n) ≡ replicate line.count line.ranking
line_dealt n i line some =
    let below = mod-lt i {m = n} (omega arith) in
    one_gets (λ s. dealt n s i line) (i % n + 1) (dealt_elsewhere n i line) n 1 (omega arith) (omega arith)
    ∙ dealt_here n i line

-- two pieces for each shard, one by one or in two rounds
two_rounds :
    (p q : ℕ → List (List ℕ)) (ss : List ℕ)
    → IsPermutation (flat_map (λ s. p s ++ q s) ss) (flat_map p ss ++ flat_map q ss)
two_rounds p q [] = IsPermutation-refl []
two_rounds p q (s ∷ ss) =
    let both = flat_map (λ s. p s ++ q s) ss in
    let ps = flat_map p ss in
    let qs = flat_map q ss in
    let behind : IsPermutation (q s ++ both) (ps ++ (q s ++ qs)) =
    IsPermutation-trans (q s ++ both) (q s ++ (ps ++ qs)) (ps ++ (q s ++ qs))
    (IsPermutation-append_right (q s) both (ps ++ qs) (two_rounds p q ss)) (IsPermutation-shift (q s) ps qs) in
    subst (λ (l : List (List ℕ)). IsPermutation l ((p s ++ ps) ++ (q s ++ qs))) (sym (append_assoc (p s) (q s) both))
    (subst (λ (l : List (List ℕ)). IsPermutation (p s ++ (q s ++ both)) l) (sym (append_assoc (p s) ps (q s ++ qs)))
    (IsPermutation-append_right (p s) (q s ++ both) (ps ++ (q s ++ qs)) behind))

nothing_dealt : (ss : List ℕ) → flat_map {X = ℕ} {A = List ℕ} (λ s. []) ss ≡ []
nothing_dealt [] = refl
nothing_dealt (s ∷ ss) = nothing_dealt ss

-- all shards together get all lines
all_dealt :
    (n : ℕ) → 1 ≤ n → (i : ℕ) (lines : List BallotLine)
    → IsPermutation (flat_map (λ s. share n s i lines) (range_with_len 1 n)) (plain lines)
all_dealt n some i [] =
    subst (λ (l : List (List ℕ)). IsPermutation l []) (sym (nothing_dealt (range_with_len 1 n)))
    (IsPermutation-refl [])
all_dealt n some i (line ∷ lines) =
    let ss = range_with_len 1 n in
    let rest = flat_map (λ s. share n s (i + 1) lines) ss in
    IsPermutation-trans (flat_map (λ s. dealt n s i line ++ share n s (i + 1) lines) ss)
    (flat_map (λ s. dealt n s i line) ss ++ rest) (plain (line ∷ lines))
    (two_rounds (λ s. dealt n s i line) (λ s. share n s (i + 1) lines) ss)
    (subst (λ (l : List (List ℕ)). IsPermutation (l ++ rest) (plain (line ∷ lines))) (sym (line_dealt n i line some))
    (IsPermutation-append_right (replicate line.count line.ranking) rest (plain lines) (all_dealt n some (i + 1) lines)))

-- ---- one share, line by line

share-append :
    (n s i : ℕ) (lines more : List BallotLine)
    → share n s i (lines ++ more) ≡ share n s i lines ++ share n s (i + length lines) more
share-append n s i [] more = ap (λ (k : ℕ). share n s k more) (omega arith)
share-append n s i (line ∷ lines) more =
    ap (λ (l : List (List ℕ)). dealt n s i line ++ l)
    (share-append n s (i + 1) lines more ∙ ap (λ (k : ℕ). share n s (i + 1) lines ++ share n s k more) (omega arith))
    ∙ sym (append_assoc (dealt n s i line) (share n s (i + 1) lines) (share n s (i + suc (length lines)) more))

-- the line at place i comes after those before it
pub share_more :
    (n s : ℕ) (lines : List BallotLine) (i : ℕ) (line : BallotLine) → i < length lines
    → line ≡ get_or lines i line
    → share n s 0 (take (i + 1) lines) ≡ share n s 0 (take i lines) ++ dealt n s i line
share_more n s lines i line inside at =
    let taken : 0 + length (take i lines) ≡ i = omega (arith, length-take i lines) in
    ap (share n s 0) (take_more lines i line inside ∙ ap (λ (l : BallotLine). take i lines ++ l ∷ []) (sym at))
    ∙ (share-append n s 0 (take i lines) (line ∷ [])
    ∙ (ap (λ (k : ℕ). share n s 0 (take i lines) ++ share n s k (line ∷ [])) taken
    ∙ ap (λ (l : List (List ℕ)). share n s 0 (take i lines) ++ l) (append-nil (dealt n s i line))))

-- a shard gets no more of a line than it has
pub dealt_some : (n s i : ℕ) (line : BallotLine) → length (dealt n s i line) ≤ line.count
dealt_some n s i line = ⊎_elim
    (λ (same : ((i % n + 1 == s) ≡ true) × (i % n + 1 ≡ s)). rw same.0
    (omega (arith, length-replicate line.count line.ranking)))
    (λ (differs : ((i % n + 1 == s) ≡ false) × (i % n + 1 ≢ s)). rw differs.0 (omega arith))
    (eqb_tells (i % n + 1) s)

-- ---- plans of shares

pub All-one : {X : Type 0} (P : X → Type 0) (x : X) → P x → All P (x ∷ [])
All-one P x holds zero d inside = holds
All-one P x holds (suc k) d inside = absurd (omega arith)

pub one_plan_more :
    (n s : ℕ) (lines : List BallotLine) (plans : List PlanRows) (plan : PlanRows)
    → AreOfShares n s lines plans
    → IsPermutation (plan_ballots plan.rows) (share n (s + length plans) 0 lines)
    → AreOfShares n s lines (plans ++ plan ∷ [])
one_plan_more n s lines [] plan are is =
    (subst (λ (t : ℕ). IsPermutation (plan_ballots plan.rows) (share n t 0 lines)) (omega arith) is, tt)
one_plan_more n s lines (first ∷ plans) plan are is = (
  are.0,
  one_plan_more n (s + 1) lines plans plan are.1
      (subst (λ (t : ℕ). IsPermutation (plan_ballots plan.rows) (share n t 0 lines)) (omega arith) is),
)

shares_together : (n s : ℕ) (lines : List BallotLine) (plans : List PlanRows) → AreOfShares n s lines plans
    → IsPermutation (all_ballots plans) (flat_map (λ t. share n t 0 lines) (range_with_len s (length plans)))
shares_together n s lines [] are = IsPermutation-refl []
shares_together n s lines (plan ∷ plans) are =
    IsPermutation-append (plan_ballots plan.rows) (share n s 0 lines) (all_ballots plans)
    (flat_map (λ t. share n t 0 lines) (range_with_len (s + 1) (length plans)))
    are.0 (shares_together n (s + 1) lines plans are.1)

-- a plan for each share: together they stand for all ballots
pub shares_are_all :
    (n : ℕ) (lines : List BallotLine) (plans : List PlanRows) → 1 ≤ n → length plans ≡ n
    → AreOfShares n 1 lines plans
    → IsPermutation (all_ballots plans) (plain lines)
shares_are_all n lines plans some as_many are =
    let every =
    subst (λ (k : ℕ). IsPermutation (all_ballots plans)
    (flat_map (λ t. share n t 0 lines) (range_with_len 1 k))) as_many
    (shares_together n 1 lines plans are) in
    IsPermutation-trans (all_ballots plans) (flat_map (λ t. share n t 0 lines) (range_with_len 1 n))
    (plain lines) every (all_dealt n some 0 lines)

-- the plans of all shards have no more ballots than a list of lines may have
pub few_in_shares :
    (n : ℕ) (lines : List BallotLine) (plans : List PlanRows) → 1 ≤ n → length plans ≡ n
    → AreOfShares n 1 lines plans
    → ((ls : List BallotLine) → length (plain ls) ≡ ballot_count ls) → ballot_count lines ≤ 999999999
    → length (all_ballots plans) ≤ 999999999
few_in_shares n lines plans some as_many shares count few =
    subst (λ (k : ℕ). k ≤ 999999999)
    (sym (count lines)
    ∙ length_permutation (all_ballots plans) (plain lines)
    (shares_are_all n lines plans some as_many shares)) few
