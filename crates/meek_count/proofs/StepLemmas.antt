-- What an iteration of a count needs, and what it leaves.
use Rattle.std.proofs.Common.{◌≡◌, ℕ, ◌+◌, ◌-◌, ◌*◌, ◌^◌, ◌<◌, ◌≤◌, ◌||◌, false, List, [], ◌∷◌, length}
use Rattle.std.proofs.Common.{get_or, sum, arith, refl, ap, subst, ◌∙◌}
use Rattle.std.proofs.Math.Nat.{mul-le-mul_right}
use Rattle.std.proofs.lemmas.List.FromFn.{get_or-map-range_with_len}
use Rattle.std.proofs.lemmas.List.Sums.{sum_by-cons}
use Rattle.fixed_place.specs.Rounding.{scale, most}
use Rattle.fixed_place.proofs.RoundingLemmas.{scale_pos, most_votes}
use Rattle.candidate_roll.specs.State.{state_at}
use Rattle.candidate_roll.specs.declared.state.State.{State}
use Rattle.candidate_roll.specs.declared.state.State.TheVariants.{Hopeful, Elected as IsNowElected, Defeated, Withdrawn}
use Rattle.meek_rule.specs.Situation.{Situation, IsValid, IsOnItsWay, FitsState, is_complete, is_hopeful}
use Rattle.meek_rule.specs.Situation.{is_elected, hopeful_count}
use Rattle.meek_rule.specs.declared.step.Step.{Step}
use Rattle.meek_rule.specs.declared.step.Step.TheVariants.{Elected}
use Rattle.meek_rule.specs.Row.{Row}
use Rattle.meek_rule.specs.Rule.{Rule}
use Rattle.meek_rule.specs.Iteration.{HasOnlyRunningVotes, Settle, StepLeaves}
use Rattle.meek_rule.specs.Weights.{given_under, vote_under, votes_under}
use Rattle.meek_rule.proofs.TieLemmas.{somebody_hopeful}
use Rattle.meek_rule.proofs.RuleLemmas.{most_bound}
use Rattle.meek_count.specs.Progress.{Progress, IsCounting, HasRest}
use Rattle.meek_rule.proofs.TotalLemmas.{given-none}
use Rattle.meek_count.proofs.WholeCount.{rows_exist, sum-votes-valid}

-- some rows lead from where a count stands to the end
pub rest_exists :
    (rule : Rule) (places bound : ℕ) (count : Progress) → IsCounting (scale places) bound count
    → HasRest rule (scale places) count
rest_exists rule places bound count is =
    rows_exist rule (scale places) count.ballots count.lots count.situation (scale_pos places) is.valid
    is.order_of_lots is.lots_of_all

-- the votes at the same keep values, of as many candidates
pub votes-same :
    (rule : Rule) (s : ℕ) (kept keeps : List ℕ) (ballots : List (List ℕ)) (m n : ℕ) → kept ≡ keeps → m ≡ n
    → votes_under rule s kept ballots m ≡ votes_under rule s keeps ballots n
votes-same rule s kept keeps ballots m n same of_all =
    ap (λ k. votes_under rule s k ballots m) same ∙ ap (votes_under rule s keeps ballots) of_all

-- there is another number for a round
pub round_fits :
    (s bound : ℕ) (now : Situation) → IsValid s now → IsOnItsWay bound now → is_complete now ≡ false
    → now.round + 1 < 2 ^ 32
round_fits s bound now valid way going =
    let some : 1 ≤ hopeful_count now.states = somebody_hopeful s now valid going in
    omega (arith, way.rounds, valid.few_candidates)

-- there is another number for an iteration
pub iteration_fits : (places : ℕ) (now : Situation) → places ≤ 9 → IsOnItsWay (most places) now → now.iteration + 1 < 2 ^ 64
iteration_fits places now few way =
    let bound : most places ≤ 1000000000000000000 = most_bound places few in
    omega (arith, way.iterations)

-- who is not running has keep value 0
keep_out :
    (s : ℕ) (state : State) (keep : ℕ) → (is_hopeful state || is_elected state) ≡ false
    → FitsState s state keep → keep ≡ 0
keep_out s Hopeful keep out fits = absurd (cc)
keep_out s IsNowElected keep out fits = absurd (cc)
keep_out s Defeated keep out fits = fits
keep_out s Withdrawn keep out fits = fits

-- and no vote
vote_out :
    (rule : Rule) (s : ℕ) (keeps : List ℕ) (ballots : List (List ℕ)) (p : ℕ) → 1 ≤ s → get_or keeps p 0 ≡ 0
    → vote_under rule s keeps ballots (p + 1) ≡ 0
vote_out rule s keeps [] p pos out = refl
vote_out rule s keeps (ballot ∷ ballots) p pos out =
    let place : p + 1 - 1 ≡ p = omega arith in
    let here : given_under rule s keeps s ballot (p + 1) ≡ 0 =
    given-none rule s keeps s ballot (p + 1) pos (ap (λ k. get_or keeps k 0) place ∙ out) in
    let behind : vote_under rule s keeps ballots (p + 1) ≡ 0 = vote_out rule s keeps ballots p pos out in
    let split :
    vote_under rule s keeps (ballot ∷ ballots) (p + 1)
    ≡ given_under rule s keeps s ballot (p + 1) + vote_under rule s keeps ballots (p + 1) =
    sum_by-cons (λ (ranking : List ℕ). given_under rule s keeps s ranking (p + 1)) ballot ballots in
    omega arith

-- nobody but the hopeful and the elected has votes
pub only_running :
    (rule : Rule) (s : ℕ) (ballots : List (List ℕ)) (now : Situation) → 1 ≤ s → IsValid s now
    → HasOnlyRunningVotes now.states (votes_under rule s now.keeps ballots (length now.states))
only_running rule s ballots now pos valid p below out =
    get_or-map-range_with_len (λ q. vote_under rule s now.keeps ballots (q + 1)) 0 (length now.states) p p 0
    below (omega arith)
    ∙ vote_out rule s now.keeps ballots p pos
    (keep_out s (state_at now.states p) (get_or now.keeps p 0) out (valid.fitting p below))

-- all votes together are an amount
pub votes_fit :
    (rule : Rule) (places : ℕ) (ballots : List (List ℕ)) (now : Situation) → IsValid (scale places) now
    → length ballots ≤ 999999999
    → sum (votes_under rule (scale places) now.keeps ballots (length now.states)) ≤ most places
votes_fit rule places ballots now valid few =
    let within = sum-votes-valid rule (scale places) ballots now (scale_pos places) valid in
    let all : length ballots * scale places ≤ 1000000000 * scale places = mul-le-mul_right (scale places) (omega arith) in
    omega (arith, most_votes places)

-- who is elected leaves all keep values
pub keeps-elected :
    (s : ℕ) (now : Situation) (votes lots : List ℕ) (row : Row) (next : Situation)
    → Settle s now votes lots row next → row.step ≡ Elected → next.keeps ≡ now.keeps
keeps-elected s now votes lots row next settles is =
    let left : StepLeaves s now lots row Elected next =
    subst (λ (step : Step). StepLeaves s now lots row step next) is settles.leaves in
    ap (λ (n : Situation). n.keeps) left.1
