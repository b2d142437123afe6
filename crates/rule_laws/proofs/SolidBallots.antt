-- The votes of a coalition stay with its members. While a member is hopeful its keep value is a whole vote, so a
-- ballot that ranks the members above all others gives them all that it has. The ballots of the coalition are part
-- of all ballots, in any order, so the members have at least one vote for each of them.
use Rattle.std.proofs.Common.{◌≡◌, ℕ, ◌+◌, ◌-◌, ◌<◌, ◌≤◌, Bool, true, false, cond, List, [], ◌∷◌, ◌++◌}
use Rattle.std.proofs.Common.{length, get_or, All, Contains, arith, ap, ◌∙◌, inl, inr}
use Rattle.std.specs.List.Sorted.{IsPermutation}
use Rattle.std.proofs.lemmas.List.{get_or_default}
use Rattle.std.proofs.lemmas.List.Elements.{All-nil, All-cons, All-head, All-tail}
use Rattle.std.proofs.lemmas.List.Sorted.{sum_by-IsPermutation, All-permutation}
use Rattle.fixed_place.specs.Rounding.{scale}
use Rattle.fixed_place.proofs.RoundingLemmas.{scale_pos}
use Rattle.plain_ballots.specs.Ranking.{IsRanking}
use Rattle.candidate_roll.specs.Roll.{RollList, IsRoll}
use Rattle.candidate_roll.specs.State.{state_at}
use Rattle.lot_order.specs.Flags.{mark_at}
use Rattle.meek_rule.specs.Situation.{Situation, IsValid, is_hopeful, opening}
use Rattle.meek_rule.specs.Rule.{Rule}
use Rattle.meek_rule.specs.Weights.{given_under, vote_under}
use Rattle.meek_rule.proofs.TestLemmas.{or_cases}
use Rattle.meek_count.specs.Laws.{IsElection}
use Rattle.meek_count.proofs.WholeCount.{keeps-le}
use Rattle.rule_laws.specs.Seats.{AllBecome}
use Rattle.rule_laws.specs.Coalition.{IsSolid}
use Rattle.rule_laws.proofs.Totals.{total, total-same}
use Rattle.rule_laws.proofs.Kept.{all_stay, more_stay, of_members, stays_with_members}
use Rattle.rule_laws.proofs.Members.{VotesStay}
use Rattle.rule_laws.proofs.Seated.{hopeful_keep, hopeful_runs, withdrawn_keep}

-- a solid ballot gives the members all of its vote while one of them is hopeful
solid-gives :
    (rule : Rule) (s units : ℕ) (roll : RollList) (members : List Bool) (ranking : List ℕ) (now : Situation)
    (p : ℕ) → 1 ≤ s → IsRoll roll
    → IsRanking (length roll.names) ranking → IsSolid (length roll.names) roll.withdrawn members ranking
    → IsValid s now → length now.states ≡ length roll.names
    → AllBecome (opening s units roll.seats roll.withdrawn).states now.states
    → p < length roll.names → mark_at members p ≡ true → is_hopeful (state_at now.states p) ≡ true
    → s ≤ total (length roll.names) (of_members (mark_at members) (λ c. given_under rule s now.keeps s ranking (c + 1)))
solid-gives rule s units roll members ranking now p pos sound ranks solid valid long from inside member is =
    let n : ℕ = length roll.names in
    let runs_ : mark_at roll.withdrawn p ≡ false = hopeful_runs s units roll now p sound from inside is in
    let found : Contains ranking (p + 1) = solid.whole p inside member runs_ in
    let j : ℕ = found.0 in
    let at : get_or ranking found.0 0 ≡ p + 1 = get_or_default ranking found.0 0 (p + 1) found.1 ∙ found.2 in
    let number : get_or ranking found.0 0 - 1 ≡ p = omega arith in
    let whole : get_or now.keeps p 0 ≡ s =
    hopeful_keep s (state_at now.states p) (get_or now.keeps p 0) is (valid.fitting p (omega arith)) in
    stays_with_members rule s now.keeps s ranking n (mark_at members) found.0 pos (omega arith)
    (keeps-le s now valid) ranks.numbers found.1
    (ap (λ (k : ℕ). get_or now.keeps k 0) number ∙ whole)
    (ap (mark_at members) number ∙ member)
    (λ i less.
    let numbers : (1 ≤ get_or ranking i 0) × (get_or ranking i 0 ≤ n) = ranks.numbers i 0 (omega (arith, found.1)) in
    elim (or_cases _ _ (solid.above i found.0 less found.1 (ap (mark_at members) number ∙ member)
    (ap (mark_at roll.withdrawn) number ∙ runs_))) [
      | inl one_of_them ↦ inl one_of_them
      | inr gone ↦ inr (withdrawn_keep s units roll now (get_or ranking i 0 - 1) sound valid long from (omega arith) gone)
    ])

-- what holds of all of two lists holds of all of the first
all_front : {X : Type 0} (P : X → Type 0) (xs ys : List X) → All P (xs ++ ys) → All P xs
all_front P [] ys all = All-nil P
all_front P (x ∷ xs) ys all = All-cons P x xs (All-head P x (xs ++ ys) all) (all_front P xs ys (All-tail P x (xs ++ ys) all))

pub coalition-stays :
    (rule : Rule) (places units : ℕ) (ballots coalition others : List (List ℕ)) (roll : RollList)
    (lots : List ℕ) (members : List Bool)
    → IsElection places units ballots roll lots → IsPermutation ballots (coalition ++ others)
    → All (IsSolid (length roll.names) roll.withdrawn members) coalition
    → VotesStay rule (scale places) ballots (opening (scale places) units roll.seats roll.withdrawn).states
    (length roll.names) (mark_at members)
    (length coalition)
coalition-stays rule places units ballots coalition others roll lots members is moved solid now valid long
    from p inside member hopeful =
    let s : ℕ = scale places in
    let n : ℕ = length roll.names in
    let all : All (IsRanking n) (coalition ++ others) =
    All-permutation (IsRanking n) ballots (coalition ++ others) moved is.rankings in
    let theirs : All (IsRanking n) coalition = all_front (IsRanking n) coalition others all in
    let each :
    All (λ ranking. s
    ≤ total n
    (of_members (mark_at members) (λ c. given_under rule s now.keeps s ranking (c + 1))))
    coalition =
    λ k d below_. solid-gives rule s units roll members (get_or coalition k d) now p (scale_pos places)
    is.sound_roll (theirs k d below_)
    (solid k d below_) valid long from inside member hopeful in
    let have = all_stay rule s now.keeps coalition n (mark_at members) each in
    let more = more_stay rule s now.keeps coalition others n (mark_at members) in
    let same : total n
    (of_members (mark_at members) (λ c. vote_under rule s now.keeps (coalition ++ others) (c + 1))) ≡ total
    n
    (of_members (mark_at members) (λ c. vote_under rule s now.keeps ballots (c + 1))) =
    total-same n (of_members (mark_at members) (λ c. vote_under rule s now.keeps (coalition ++ others) (c + 1)))
    (of_members (mark_at members) (λ c. vote_under rule s now.keeps ballots (c + 1)))
    (λ q below_. ap (λ (k : ℕ). cond (mark_at members q) k 0) (sum_by-IsPermutation
    (λ (ranking : List ℕ). given_under rule s now.keeps s ranking (q + 1)) ballots (coalition ++ others) moved)) in
    omega arith
