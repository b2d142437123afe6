-- Each election has one sheet by each rule.
use Rattle.std.specs.Prelude.{◌≡◌, ℕ, ◌↔◌, List}
use Rattle.std.specs.List.Sorted.{IsPermutation}
use Rattle.candidate_roll.specs.Roll.{RollList}
use Rattle.meek_rule.specs.Rule.{Rule}
use Rattle.meek_count.specs.Laws.{IsElection}
use Rattle.sheet_text.specs.Sheet.{IsSheetUnder}

-- By each rule an election has exactly one sheet.
abbrev pub EachElectionHasOneSheet : Type 0
EachElectionHasOneSheet =
    (rule : Rule) (places omega : ℕ) (ballots : List (List ℕ)) (roll : RollList) (lots : List ℕ)
    → IsElection places omega ballots roll lots
    → (text : List ℕ) × IsSheetUnder rule places omega ballots roll lots text
    × ((other : List ℕ) → IsSheetUnder rule places omega ballots roll lots other → other ≡ text)

-- The order of the ballots changes nothing.
abbrev pub OrderOfBallotsLeavesTheSheet : Type 0
OrderOfBallotsLeavesTheSheet =
    (rule : Rule) (places omega : ℕ) (ballots other : List (List ℕ)) (roll : RollList) (lots : List ℕ) (text : List ℕ)
    → IsPermutation ballots other
    → IsSheetUnder rule places omega ballots roll lots text ↔ IsSheetUnder rule places omega other roll lots text
