-- What a ballot says after a candidate can neither hurt nor help that candidate.
use Rattle.std.specs.Prelude.{◌≡◌, ℕ, ◌-◌, List, ◌∷◌, ◌++◌, Contains}
use Rattle.candidate_roll.specs.Roll.{RollList}
use Rattle.candidate_roll.specs.State.{state_at}
use Rattle.candidate_roll.specs.declared.state.State.{State}
use Rattle.meek_rule.specs.Rule.{Rule}
use Rattle.meek_rule.specs.Row.{Row}
use Rattle.meek_count.specs.Laws.{IsElection}
use Rattle.meek_count.specs.Rows.{IsCountUnder}

-- Two elections that differ in what one ballot says after the candidates in front end alike for each of these.
abbrev pub EarlierAreSafe : Type 0
EarlierAreSafe =
    (rule : Rule) (places omega : ℕ) (front one other : List ℕ) (ballots : List (List ℕ)) (roll : RollList) (lots : List ℕ)
    (rows others : List Row) (last end : List State) (c : ℕ)
    → IsElection places omega ((front ++ one) ∷ ballots) roll lots
    → IsElection places omega ((front ++ other) ∷ ballots) roll lots
    → IsCountUnder rule places omega ((front ++ one) ∷ ballots) roll lots rows last
    → IsCountUnder rule places omega ((front ++ other) ∷ ballots) roll lots others end
    → Contains front c
    → state_at last (c - 1) ≡ state_at end (c - 1)
