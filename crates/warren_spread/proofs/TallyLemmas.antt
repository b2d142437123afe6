-- Sums of what plans pay, as votes.
use Rattle.std.proofs.Common.{◌≡◌, ℕ, ◌+◌, ◌*◌, ◌<◌, ◌≤◌, List, [], length, get_or, drop}
use Rattle.std.proofs.Common.{arith, refl, ap, sym, ◌∙◌}
use Rattle.std.specs.List.{All}
use Rattle.std.proofs.Math.Nat.{mul-le-mul_right}
use Rattle.std.proofs.lemmas.List.{drop_more, drop_all, length-append}
use Rattle.std.proofs.lemmas.List.FromFn.{fill_by_all}
use Rattle.frozen_plan.specs.Plan.{PlanRows, plan_ballots, all_ballots}
use Rattle.meek_rule.specs.Rule.{Warren}
use Rattle.meek_rule.specs.Weights.{vote_under, votes_under}
use Rattle.warren_spread.specs.Paid.{paid}
use Rattle.warren_spread.proofs.PaidLemmas.{paid-append, paid-le, vote-paid}

-- the plan that comes next, and those after it
pub paid-next :
    (prices : List ℕ) (rest c : ℕ) (plans : List PlanRows) (i : ℕ) (e : PlanRows) → i < length plans
    → paid prices rest (all_ballots (drop i plans)) c
    ≡ paid prices rest (plan_ballots (get_or plans i e).rows) c
    + paid prices rest (all_ballots (drop (i + 1) plans)) c
paid-next prices rest c plans i e below =
    ap (λ (l : List PlanRows). paid prices rest (all_ballots l) c) (drop_more plans i e below)
    ∙ paid-append prices rest c (plan_ballots (get_or plans i e).rows) (all_ballots (drop (i + 1) plans))

pub ballots-next :
    (plans : List PlanRows) (i : ℕ) (e : PlanRows) → i < length plans
    → length (all_ballots (drop i plans))
    ≡ length (plan_ballots (get_or plans i e).rows) + length (all_ballots (drop (i + 1) plans))
ballots-next plans i e below =
    ap (λ (l : List PlanRows). length (all_ballots l)) (drop_more plans i e below)
    ∙ length-append (plan_ballots (get_or plans i e).rows) (all_ballots (drop (i + 1) plans))

-- after the last plan there are no ballots
pub no-ballots-left : (plans : List PlanRows) (i : ℕ) → length plans ≤ i → all_ballots (drop i plans) ≡ []
no-ballots-left plans i past = ap all_ballots (drop_all i plans past)

-- all that a candidate is paid fits an amount
pub paid_fits :
    (s most : ℕ) (prices : List ℕ) (ballots : List (List ℕ)) (c : ℕ) → 1 ≤ s → 1000000000 * s ≡ most
    → All (λ k. k ≤ s) prices → length ballots ≤ 999999999 → paid prices s ballots c ≤ most
paid_fits s most prices ballots c pos whole bound few =
    let all : length ballots * s ≤ 1000000000 * s = mul-le-mul_right s (omega arith) in
    omega (arith, paid-le s prices ballots c pos bound)

-- sums by places are the votes
pub votes_of_sums :
    (s : ℕ) (prices : List ℕ) (ballots : List (List ℕ)) (tally : List ℕ) (n : ℕ) → length tally ≡ n
    → ((p : ℕ) → p < n → get_or tally p 0 ≡ paid prices s ballots (p + 1))
    → tally ≡ votes_under Warren s prices ballots n
votes_of_sums s prices ballots tally n same at =
    fill_by_all (λ p. vote_under Warren s prices ballots (p + 1)) tally n 0 same
    (λ p below. at p below ∙ sym (vote-paid s prices ballots (p + 1)))

-- lists that agree at each place
pub same_list :
    (xs ys : List ℕ) → length xs ≡ length ys → ((p : ℕ) → p < length ys → get_or xs p 0 ≡ get_or ys p 0)
    → xs ≡ ys
same_list xs ys same at =
    fill_by_all (λ p. get_or ys p 0) xs (length ys) 0 same at
    ∙ sym (fill_by_all (λ p. get_or ys p 0) ys (length ys) 0 refl (λ p below. refl))
