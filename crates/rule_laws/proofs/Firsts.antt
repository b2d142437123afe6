-- Who is hopeful has all its first preferences.
use Rattle.std.proofs.Common.{◌≡◌, ℕ, ◌-◌, ◌*◌, ◌<◌, ◌≤◌, Bool, true, false, List, [], length, get_or, All}
use Rattle.std.proofs.Common.{arith, ap, sym, subst, ◌∙◌, inl, inr, zero, suc}
use Rattle.std.proofs.lemmas.Bool.{cases_lt}
use Rattle.fixed_place.specs.Rounding.{scale}
use Rattle.fixed_place.proofs.RoundingLemmas.{scale_pos}
use Rattle.plain_ballots.specs.Ranking.{IsRanking}
use Rattle.candidate_roll.specs.Roll.{RollList, is_withdrawn}
use Rattle.candidate_roll.specs.State.{state_at}
use Rattle.candidate_roll.specs.declared.state.State.{State}
use Rattle.meek_rule.specs.Situation.{Situation, IsValid, is_hopeful, opening}
use Rattle.meek_rule.specs.Rule.{Rule}
use Rattle.meek_rule.specs.Weights.{vote_under, votes_under}
use Rattle.meek_count.specs.Laws.{IsElection}
use Rattle.meek_count.proofs.WholeCount.{length-opening}
use Rattle.rule_laws.specs.Seats.{AllBecome}
use Rattle.rule_laws.specs.Majority.{first_count}
use Rattle.rule_laws.specs.Plurality.{FirstPreferencesStay}
use Rattle.rule_laws.proofs.Seated.{hopeful_keep, withdrawn_keep}
use Rattle.rule_laws.proofs.FirstVotes.{first-given, first-runs, first-votes, first_somewhere, number_of}
use Rattle.rule_laws.proofs.EachRow.{count-each, hopeful_place, vote-at}

-- a product that is above some number has no factor 0
pub some_factor : (f s k : ℕ) → k < f * s → 1 ≤ f
some_factor zero s k more = absurd (omega arith)
some_factor (suc f) s k more = omega arith

-- who is first on some ballot is a candidate, and was not withdrawn
pub first_number :
    (n : ℕ) (withdrawn : List Bool) (ballots : List (List ℕ)) (c : ℕ) → All (IsRanking n) ballots
    → 1 ≤ first_count withdrawn ballots c → (1 ≤ c) × (c ≤ n) × (is_withdrawn withdrawn c ≡ false)
first_number n withdrawn ballots c rankings some =
    let somewhere = first_somewhere withdrawn ballots c some in
    let ranking : List ℕ = get_or ballots somewhere.0 [] in
    let runs = first-runs withdrawn ranking c somewhere.2 in
    let number : (1 ≤ c) × (c ≤ n) = number_of n ranking c (rankings somewhere.0 [] somewhere.1) runs.0 in
    (number.0, number.1, runs.1)

-- wherever a count comes to
pub firsts_stay :
    (rule : Rule) (places units : ℕ) (ballots : List (List ℕ)) (roll : RollList) (lots : List ℕ) (now : Situation)
    (c : ℕ)
    → IsElection places units ballots roll lots → IsValid (scale places) now
    → length now.states ≡ length roll.names
    → AllBecome (opening (scale places) units roll.seats roll.withdrawn).states now.states
    → is_hopeful (state_at now.states (c - 1)) ≡ true
    → first_count roll.withdrawn ballots c * scale places ≤ vote_under rule (scale places) now.keeps ballots c
firsts_stay rule places units ballots roll lots now c is valid long begun hopeful =
    let s : ℕ = scale places in
    let n : ℕ = length roll.names in
    let whole : get_or now.keeps (c - 1) 0 ≡ s =
    hopeful_keep s (state_at now.states (c - 1)) (get_or now.keeps (c - 1) 0) hopeful
    (valid.fitting (c - 1) (hopeful_place now.states (c - 1) hopeful)) in
    first-votes rule s now.keeps roll.withdrawn ballots c (λ k d inside first.
    first-given rule s now.keeps roll.withdrawn s (get_or ballots k d) c (scale_pos places) (omega arith) whole
    (λ r has gone.
    let number : (1 ≤ r) × (r ≤ n) = number_of n (get_or ballots k d) r (is.rankings k d inside) has in
    withdrawn_keep s units roll now (r - 1) is.sound_roll valid long begun (omega arith) gone)
    first)

pub count-firsts : FirstPreferencesStay
count-firsts rule places units ballots roll lots rows last is counted =
    let s : ℕ = scale places in
    count-each rule places units ballots roll lots rows last
    (λ row. (c : ℕ) → is_hopeful (state_at row.states (c - 1)) ≡ true
    → first_count roll.withdrawn ballots c * scale places ≤ get_or row.votes (c - 1) 0) is counted
    (λ now row next at c hopes.
    let long : length now.states ≡ length roll.names = at.long ∙ length-opening s units roll is.sound_roll in
    let hopeful : is_hopeful (state_at now.states (c - 1)) ≡ true =
    subst (λ (x : List State). is_hopeful (state_at x (c - 1)) ≡ true) at.settles.states hopes in
    elim (cases_lt 0 (first_count roll.withdrawn ballots c)) [
      | inl some ↦
          let runs = first_number (length roll.names) roll.withdrawn ballots c is.rankings some in
          let vote :
          get_or (votes_under rule s now.keeps ballots (length now.states)) (c - 1) 0
          ≡ vote_under rule s now.keeps ballots c =
          vote-at rule s now.keeps ballots (length now.states) c runs.0
          (hopeful_place now.states (c - 1) hopeful) in
          let stay = firsts_stay rule places units ballots roll lots now c is at.valid long at.begun hopeful in
          subst (λ (v : ℕ). first_count roll.withdrawn ballots c * s ≤ v)
          (sym (ap (λ (v : List ℕ). get_or v (c - 1) 0) at.settles.votes_are ∙ vote)) stay
      | inr none ↦
          let nothing : first_count roll.withdrawn ballots c ≡ 0 = omega arith in
          let times : first_count roll.withdrawn ballots c * s ≡ 0 * s = ap (λ (k : ℕ). k * s) nothing in
          omega arith
    ])
