-- The withdrawn left out, and the others numbered anew.
use Rattle.std.specs.Prelude.{ℕ, ◌+◌, ◌-◌, ◌≤◌, Bool, List, map, length, slice_index}
use Rattle.std.specs.List.{range_with_len}
use Rattle.candidate_roll.specs.Roll.{RollList}
use Rattle.candidate_roll.specs.declared.state.State.{State}
use Rattle.candidate_roll.specs.declared.state.State.TheVariants.{Withdrawn}
use Rattle.lot_order.specs.Lots.{place_in}
use Rattle.meek_rule.specs.Rule.{Rule}
use Rattle.meek_rule.specs.Row.{Row}
use Rattle.meek_count.specs.Laws.{IsElection}
use Rattle.meek_count.specs.Rows.{IsCountUnder}
use Rattle.rule_laws.specs.Renaming.{renamed, renamed_roll, renamed_row}
use Rattle.rule_laws.specs.Strikes.{struck}

-- the candidates who run, in the order of their numbers
abbrev pub runners : (withdrawn : List Bool) → List ℕ
runners withdrawn = struck withdrawn (range_with_len 1 (length withdrawn))

-- the number of the k-th of them
abbrev pub old_number : (withdrawn : List Bool) → (k : ℕ) → ℕ
old_number withdrawn k = slice_index (runners withdrawn) (k - 1)

-- which of them candidate c is, from 1
abbrev pub new_number : (withdrawn : List Bool) → (c : ℕ) → ℕ
new_number withdrawn c = place_in (runners withdrawn) c + 1

-- a ballot's candidates, or those of the lots, but for the withdrawn, in the same order by their new numbers
abbrev pub closed_up : (withdrawn : List Bool) → List ℕ → List ℕ
closed_up withdrawn candidates = map (new_number withdrawn) (struck withdrawn candidates)

-- the roll of those who run
abbrev pub roll_left : RollList → RollList
roll_left roll = renamed_roll (length (runners roll.withdrawn)) (old_number roll.withdrawn) roll

-- a row without the places of the withdrawn
abbrev pub row_left : (withdrawn : List Bool) → Row → Row
row_left withdrawn row =
    renamed_row (length (runners withdrawn)) (new_number withdrawn) (old_number withdrawn) row

-- the states of those who run
abbrev pub states_left : (withdrawn : List Bool) → List State → List State
states_left withdrawn states = renamed (length (runners withdrawn)) (old_number withdrawn) Withdrawn states

-- With the withdrawn left out of roll, ballots and lots, and the others numbered anew in their order, the
-- count has the same rows and the same last states but for the places of the withdrawn.
abbrev pub WithdrawnMayBeLeftOut : Type 0
WithdrawnMayBeLeftOut =
    (rule : Rule) (places omega : ℕ) (ballots : List (List ℕ)) (roll : RollList) (lots : List ℕ)
    (rows : List Row) (last : List State)
    → IsElection places omega ballots roll lots
    → IsCountUnder rule places omega ballots roll lots rows last
    → IsCountUnder rule places omega (map (closed_up roll.withdrawn) ballots) (roll_left roll)
    (closed_up roll.withdrawn lots) (map (row_left roll.withdrawn) rows) (states_left roll.withdrawn last)

-- Where somebody runs, what is left is an election, so that this is its only count.
abbrev pub WhatIsLeftIsAnElection : Type 0
WhatIsLeftIsAnElection =
    (places omega : ℕ) (ballots : List (List ℕ)) (roll : RollList) (lots : List ℕ)
    → IsElection places omega ballots roll lots → 1 ≤ length (runners roll.withdrawn)
    → IsElection places omega
    (map (closed_up roll.withdrawn) ballots) (roll_left roll) (closed_up roll.withdrawn lots)
