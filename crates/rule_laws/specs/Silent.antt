-- Ballots that rank nobody who runs.
use Rattle.std.specs.Prelude.{◌≡◌, ◌↔◌, ◌≤◌, ◌+◌, ◌*◌, not, ℕ, true, Bool, List, ◌∷◌, ◌++◌, length, count_by, All}
use Rattle.std.specs.List.{list_any}
use Rattle.std.specs.List.Sorted.{IsPermutation}
use Rattle.fixed_place.specs.Rounding.{scale}
use Rattle.candidate_roll.specs.Roll.{RollList, is_withdrawn}
use Rattle.candidate_roll.specs.declared.state.State.{State}
use Rattle.meek_rule.specs.Rule.{Rule}
use Rattle.meek_rule.specs.Row.{Row}
use Rattle.meek_count.specs.Laws.{IsElection}
use Rattle.meek_count.specs.Rows.{IsCountUnder}
use Rattle.rule_laws.specs.Coalition.{IsSolid, elected_members, left_over, running_members, whole_quota}

-- all whom the ballot ranks were withdrawn, if it ranks anybody
abbrev pub IsSilent : (withdrawn : List Bool) → List ℕ → Type 0
IsSilent withdrawn ranking = All (λ c. is_withdrawn withdrawn c ≡ true) ranking

-- somebody whom the ballot ranks runs
abbrev pub is_heard : (withdrawn : List Bool) → List ℕ → Bool
is_heard withdrawn ranking = list_any (λ c. not (is_withdrawn withdrawn c)) ranking

-- how many of the ballots rank somebody who runs
abbrev pub heard_count : (withdrawn : List Bool) → List (List ℕ) → ℕ
heard_count withdrawn ballots = count_by (is_heard withdrawn) ballots

-- With or without ballots that rank nobody who runs the count is the same, row for row.
abbrev pub SilentBallotsChangeNothing : Type 0
SilentBallotsChangeNothing =
    (rule : Rule) (places omega : ℕ) (ballots silent : List (List ℕ)) (roll : RollList) (lots : List ℕ) (rows : List Row) (last : List State)
    → IsElection places omega ballots roll lots → All (IsSilent roll.withdrawn) silent
    → IsCountUnder rule places omega ballots roll lots rows last
    ↔ IsCountUnder rule places omega (silent ++ ballots) roll lots rows last

-- The votes of the first iteration are together one vote for each ballot that ranks somebody who runs.
abbrev pub FirstVotesAreThoseHeard : Type 0
FirstVotesAreThoseHeard =
    (rule : Rule) (places omega : ℕ) (ballots : List (List ℕ)) (roll : RollList) (lots : List ℕ) (row : Row) (rows : List Row) (last : List State)
    → IsElection places omega ballots roll lots
    → IsCountUnder rule places omega ballots roll lots (row ∷ rows) last
    → row.total ≡ heard_count roll.withdrawn ballots * scale places

-- So voters who rank the same candidates above all others need quotas of these ballots alone.
abbrev pub HeardCoalitionsAreSeated : Type 0
HeardCoalitionsAreSeated =
    (rule : Rule) (places omega : ℕ) (ballots coalition others : List (List ℕ)) (roll : RollList) (lots : List ℕ) (rows : List Row) (last : List State)
    (members : List Bool) (k over : ℕ)
    → IsElection places omega ballots roll lots → IsPermutation ballots (coalition ++ others)
    → IsCountUnder rule places omega ballots roll lots rows last
    → All (IsSolid (length roll.names) roll.withdrawn members) coalition
    → k ≤ running_members (length roll.names) roll.withdrawn members
    → All (λ row. left_over members row.step row ≤ over) rows
    → k * whole_quota (scale places) roll.seats (heard_count roll.withdrawn ballots) + over ≤ length coalition * scale places
    → k ≤ elected_members (length roll.names) members last
