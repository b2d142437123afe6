-- What ballots have left after their last ranks.
use Rattle.std.specs.Prelude.{◌≡◌, ℕ, ◌+◌, ◌*◌, List, length, sum, sum_by, All}
use Rattle.fixed_place.specs.Rounding.{scale}
use Rattle.candidate_roll.specs.Roll.{RollList}
use Rattle.candidate_roll.specs.declared.state.State.{State}
use Rattle.meek_rule.specs.Rule.{Rule}
use Rattle.meek_rule.specs.Weights.{weight_under}
use Rattle.meek_rule.specs.Row.{Row}
use Rattle.meek_count.specs.Laws.{IsElection}
use Rattle.meek_count.specs.Rows.{IsCountUnder}

-- the weights that all ballots have left after their last ranks, together
abbrev pub exhausted : Rule → (s : ℕ) → (keeps : List ℕ) → List (List ℕ) → ℕ
exhausted rule s keeps ballots = sum_by (λ ranking. weight_under rule s keeps s ranking) ballots

-- In each iteration the votes and what is exhausted are together one vote for each ballot, to the unit.
abbrev pub NothingVanishes : Type 0
NothingVanishes =
    (rule : Rule) (places omega : ℕ) (ballots : List (List ℕ)) (roll : RollList) (lots : List ℕ) (rows : List Row) (last : List State)
    → IsElection places omega ballots roll lots → IsCountUnder rule places omega ballots roll lots rows last
    → All (λ row. sum row.votes + exhausted rule (scale places) row.keeps ballots ≡ length ballots * scale places) rows
