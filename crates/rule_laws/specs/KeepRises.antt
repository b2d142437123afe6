-- By how much a keep value rises.
use Rattle.std.specs.Prelude.{ℕ, ◌+◌, ◌-◌, ◌≤◌, List, ◌∷◌, ◌++◌, slice_index}
use Rattle.fixed_place.specs.Rounding.{scale}
use Rattle.candidate_roll.specs.Roll.{RollList}
use Rattle.candidate_roll.specs.declared.state.State.{State}
use Rattle.meek_rule.specs.Rule.{Rule}
use Rattle.meek_rule.specs.Row.{Row}
use Rattle.meek_count.specs.Laws.{IsElection}
use Rattle.meek_count.specs.Rows.{IsCountUnder}

-- From one iteration of a count to the next a keep value, or a price, rises by at most one unit, where its candidate has at least
-- the quota, and at least a vote less a unit.
abbrev pub KeepValuesRiseByAUnit : Type 0
KeepValuesRiseByAUnit =
    (rule : Rule) (places omega : ℕ) (ballots : List (List ℕ)) (roll : RollList) (lots : List ℕ)
    (earlier : List Row) (row next : Row) (later : List Row) (last : List State) (p : ℕ)
    → IsElection places omega ballots roll lots
    → IsCountUnder rule places omega ballots roll lots (earlier ++ row ∷ next ∷ later) last
    → row.quota ≤ slice_index row.votes p → scale places - 1 ≤ slice_index row.votes p
    → slice_index next.keeps p ≤ slice_index row.keeps p + 1
