-- The lines of a sheet. 32 is a space, and 10 the line feed that ends a line.
use Rattle.std.specs.Prelude.{ℕ, ◌+◌, Bool, true, false, if◌then◌else◌, List, [], ◌∷◌, ◌++◌, length, codes, decimal, slice_index, slice_index_or}
use Rattle.std.specs.List.{flat_map, list_any}
use Rattle.fixed_place.specs.Text.{text_of}
use Rattle.candidate_roll.specs.Roll.{RollList}
use Rattle.candidate_roll.specs.State.{state_at}
use Rattle.candidate_roll.specs.declared.state.State.{State}
use Rattle.candidate_roll.specs.declared.state.State.TheVariants.{Hopeful, Elected as IsElected, Defeated, Withdrawn}
use Rattle.meek_rule.specs.Places.{each_place}
use Rattle.meek_rule.specs.Row.{Row}
use Rattle.meek_rule.specs.declared.step.Step.{Step}
use Rattle.meek_rule.specs.declared.step.Step.TheVariants.{Elected, Iterate, Defeat}

-- a line with the line feed that ends it
abbrev pub ended : List ℕ → List ℕ
ended line = line ++ 10 ∷ []

-- lines one after another, each with its line feed
unfoldable pub text_of_lines : List (List ℕ) → List ℕ
text_of_lines lines = flat_map ended lines

-- what a state is called
abbrev pub state_word : State → List ℕ
state_word Hopeful = codes "hopeful"
state_word IsElected = codes "elected"
state_word Defeated = codes "defeated"
state_word Withdrawn = codes "withdrawn"

-- the marked candidates by rising number, each after a space; c is the number of the first of these marks
abbrev pub listed : (c : ℕ) → List Bool → List ℕ
listed c [] = []
listed c (true ∷ marks) = 32 ∷ decimal c ++ listed (c + 1) marks
listed c (false ∷ marks) = listed (c + 1) marks

-- a line of the marked candidates, only where there is one
abbrev pub marked_lines : (word : List ℕ) → List Bool → List (List ℕ)
marked_lines word marks = if list_any (λ mark. mark) marks then (word ++ listed 1 marks) ∷ [] else []

-- what the step was, and at a defeat all who were tied
unfoldable pub step_line : Step → (tied : List Bool) → List ℕ
step_line Elected tied = codes "step elected"
step_line Iterate tied = codes "step iterate"
step_line (Defeat c) tied = codes "step defeat " ++ decimal c ++ codes " tied" ++ listed 1 tied

-- the number, state, keep value and vote of the candidate at a place
unfoldable pub candidate_line : (places : ℕ) → Row → (p : ℕ) → List ℕ
candidate_line places row p =
    decimal (p + 1) ++ 32 ∷ state_word (state_at row.states p)
    ++ 32 ∷ text_of places (slice_index row.keeps p) ++ 32 ∷ text_of places (slice_index row.votes p)

-- the number, last state and name of the candidate at a place
unfoldable pub outcome_line : List State → (names : List (List ℕ)) → (p : ℕ) → List ℕ
outcome_line states names p =
    decimal (p + 1) ++ 32 ∷ state_word (state_at states p) ++ 32 ∷ slice_index_or names p []

-- how a sheet begins
abbrev pub head_lines : RollList → (ballots : ℕ) → List (List ℕ)
head_lines roll ballots =
    (codes "title " ++ roll.title)
    ∷ (codes "seats " ++ decimal roll.seats)
    ∷ (codes "candidates " ++ decimal (length roll.names))
    ∷ (codes "ballots " ++ decimal ballots)
    ∷ []

-- which iteration of which round it is
abbrev pub number_line : Row → List ℕ
number_line row = codes "round " ++ decimal row.round ++ codes " iteration " ++ decimal row.iteration

-- the amounts of an iteration
abbrev pub amount_lines : (places : ℕ) → Row → List (List ℕ)
amount_lines places row =
    (codes "total " ++ text_of places row.total)
    ∷ (codes "quota " ++ text_of places row.quota)
    ∷ (codes "surplus " ++ text_of places row.surplus)
    ∷ []

-- what the iteration decided
abbrev pub decision_lines : Row → List (List ℕ)
decision_lines row =
    marked_lines (codes "elected") row.elected
    ++ (marked_lines (codes "capped") row.capped ++ step_line row.step row.tied ∷ [])

-- an iteration
abbrev pub row_lines : (places : ℕ) → Row → List (List ℕ)
row_lines places row =
    number_line row ∷ each_place (length row.states) (candidate_line places row)
    ++ (amount_lines places row ++ decision_lines row)

-- how a sheet ends
abbrev pub result_lines : (names : List (List ℕ)) → List State → List (List ℕ)
result_lines names states =
    codes "result" ∷ each_place (length states) (outcome_line states names) ++ codes "end" ∷ []
