-- Counts in which next to nothing is left over, which are proportional.
use Rattle.std.specs.Prelude.{◌≡◌, ℕ, ◌+◌, ◌-◌, ◌*◌, ◌/◌, ◌<◌, ◌≤◌, if◌then◌else◌, Bool, List, ◌++◌, length, sum, slice_index, All}
use Rattle.std.specs.List.Sorted.{IsPermutation}
use Rattle.fixed_place.specs.Rounding.{scale}
use Rattle.candidate_roll.specs.Roll.{RollList}
use Rattle.candidate_roll.specs.declared.state.State.{State}
use Rattle.meek_rule.specs.declared.step.Step.TheVariants.{Defeat}
use Rattle.meek_rule.specs.Places.{each_place}
use Rattle.meek_rule.specs.Surplus.{holds_seat}
use Rattle.meek_rule.specs.Rule.{Rule}
use Rattle.meek_rule.specs.Row.{Row}
use Rattle.meek_count.specs.Laws.{IsElection}
use Rattle.meek_count.specs.Rows.{IsCountUnder}
use Rattle.rule_laws.specs.Coalition.{IsSolid, running_members, elected_members}

-- what each of those who hold seats, winners included, lacks of a quota, together
abbrev pub shortfalls : Row → ℕ
shortfalls row =
    let lack : ℕ → ℕ = λ p. if holds_seat row.states row.elected p then row.quota - slice_index row.votes p else 0 in
    sum (each_place (length row.states) lack)

-- Nobody is defeated while a surplus above u is left, and those who hold seats lack at most d.
pub record IsOrderly (u d : ℕ) (row : Row) : Type 0 where
  pub surplus : (c : ℕ) → row.step ≡ Defeat c → row.surplus ≤ u
  pub short : shortfalls row ≤ d

-- A count whose rows are orderly is proportional to all voters at once: whoever are more than k shares of them, and rank the same
-- candidates above all others, get k seats for these, where k units and u and d are together at most a share of one vote.
abbrev pub OrderlyCountsAreProportional : Type 0
OrderlyCountsAreProportional =
    (rule : Rule) (places omega : ℕ) (ballots coalition others : List (List ℕ)) (roll : RollList) (lots : List ℕ) (rows : List Row) (last : List State)
    (members : List Bool) (k u d : ℕ)
    → IsElection places omega ballots roll lots → IsPermutation ballots (coalition ++ others)
    → IsCountUnder rule places omega ballots roll lots rows last
    → All (IsSolid (length roll.names) roll.withdrawn members) coalition
    → k ≤ running_members (length roll.names) roll.withdrawn members
    → All (IsOrderly u d) rows
    → (k + (u + d)) * (roll.seats + 1) ≤ scale places
    → k * length ballots < length coalition * (roll.seats + 1)
    → k ≤ elected_members (length roll.names) members last

-- So at any number of places, with at most 49 seats: a count is proportional where nobody is defeated while more than a hundredth
-- of a vote of surplus is left, and those who hold seats never lack more than nine thousandths of a vote together.
abbrev pub QuietCountsAreProportional : Type 0
QuietCountsAreProportional =
    (rule : Rule) (places omega : ℕ) (ballots coalition others : List (List ℕ)) (roll : RollList) (lots : List ℕ) (rows : List Row) (last : List State)
    (members : List Bool) (k : ℕ)
    → IsElection places omega ballots roll lots → IsPermutation ballots (coalition ++ others)
    → IsCountUnder rule places omega ballots roll lots rows last
    → roll.seats ≤ 49
    → All (IsSolid (length roll.names) roll.withdrawn members) coalition
    → k ≤ running_members (length roll.names) roll.withdrawn members
    → All (IsOrderly (scale places / 100) (scale places * 9 / 1000)) rows
    → k * length ballots < length coalition * (roll.seats + 1)
    → k ≤ elected_members (length roll.names) members last
