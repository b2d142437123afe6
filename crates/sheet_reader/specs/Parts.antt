-- The lines of a sheet, part by part.
use Rattle.std.specs.Prelude.{◌≡◌, ℕ, ◌+◌, ◌≢◌, ◌≤◌, All, Bool, List, [], ◌∷◌, ◌++◌, codes, decimal, length, slice_index, slice_set}
use Rattle.std.specs.List.{flat_map}
use Rattle.plain_ballots.specs.declared.limits.TheConstants.{MOST_BALLOTS}
use Rattle.candidate_roll.specs.declared.limits.TheConstants.{MOST_NAME_BYTES, MOST_TITLE_BYTES}
use Rattle.candidate_roll.specs.Name.{IsName}
use Rattle.candidate_roll.specs.Roll.{IsFew}
use Rattle.candidate_roll.specs.State.{state_at}
use Rattle.candidate_roll.specs.declared.state.State.{State}
use Rattle.fixed_place.specs.Text.{text_of}
use Rattle.meek_rule.specs.Places.{each_place}
use Rattle.meek_rule.specs.Row.{Row}
use Rattle.meek_rule.specs.declared.step.Step.{Step}
use Rattle.sheet_text.specs.Lines.{state_word, marked_lines, step_line, row_lines, outcome_line}
use Rattle.sheet_reader.specs.Cut.{standing_line}
use Rattle.sheet_reader.specs.Form.{IsPrintableRow}

-- the numbers of seats, candidates and ballots
abbrev pub count_lines : (seats candidates ballots : ℕ) → List (List ℕ)
count_lines seats candidates ballots =
    (codes "seats " ++ decimal seats) ∷ (codes "candidates " ++ decimal candidates) ∷ (codes "ballots " ++ decimal ballots) ∷ []

-- how a sheet begins
abbrev pub head_lines : (title : List ℕ) → (seats candidates ballots : ℕ) → List (List ℕ)
head_lines title seats candidates ballots = (codes "title " ++ title) ∷ count_lines seats candidates ballots

-- no title and numbers come next
abbrev pub NoHead : (lines : List (List ℕ)) → Type 0
NoHead lines =
    (title : List ℕ) (seats candidates ballots : ℕ) (rest : List (List ℕ)) → IsName MOST_TITLE_BYTES title → IsFew seats → IsFew candidates → ballots ≤ MOST_BALLOTS
    → lines ≢ head_lines title seats candidates ballots ++ rest

-- the numbers of a round and an iteration
abbrev pub number_line_of : (round iteration : ℕ) → List ℕ
number_line_of round iteration = codes "round " ++ (decimal round ++ 32 ∷ (codes "iteration " ++ decimal iteration))

-- the line of the candidate at a place, of the lists of all
abbrev pub standing_at : (places : ℕ) → List State → (keeps votes : List ℕ) → (p : ℕ) → List ℕ
standing_at places states keeps votes p = standing_line places p (state_at states p) (slice_index keeps p) (slice_index votes p)

-- the lines of so many candidates
abbrev pub standing_lines : (places n : ℕ) → List State → (keeps votes : List ℕ) → List (List ℕ)
standing_lines places n states keeps votes = each_place n (standing_at places states keeps votes)

-- the amounts of an iteration
abbrev pub amount_lines_of : (places total quota surplus : ℕ) → List (List ℕ)
amount_lines_of places total quota surplus =
    (codes "total " ++ text_of places total) ∷ (codes "quota " ++ text_of places quota) ∷ (codes "surplus " ++ text_of places surplus) ∷ []

-- what an iteration decided
abbrev pub decision_lines_of : (elected capped : List Bool) → Step → (tied : List Bool) → List (List ℕ)
decision_lines_of elected capped step tied =
    marked_lines (codes "elected") elected ++ (marked_lines (codes "capped") capped ++ step_line step tied ∷ [])

-- a defeat, with the list of the tied
abbrev pub defeat_line : (c : ℕ) → (tied : List ℕ) → List ℕ
defeat_line c tied = codes "step defeat " ++ (decimal c ++ 32 ∷ (codes "tied" ++ tied))

-- the last state and the name of the candidate at a place
abbrev pub outcome_of : (p : ℕ) → State → (name : List ℕ) → List ℕ
outcome_of p state name = decimal (p + 1) ++ 32 ∷ (state_word state ++ 32 ∷ name)

-- how a sheet of n candidates ends
abbrev pub end_lines : (n : ℕ) → List State → (names : List (List ℕ)) → List (List ℕ)
end_lines n states names = each_place n (outcome_line states names) ++ codes "end" ∷ []

-- the end of a sheet of n candidates is not what comes next
abbrev pub NoEnd : (n : ℕ) → (lines : List (List ℕ)) → Type 0
NoEnd n lines = (states : List State) (names : List (List ℕ)) → length names ≡ n → All (IsName MOST_NAME_BYTES) names → lines ≢ end_lines n states names

-- the lines of some iterations
abbrev pub rows_lines : (places : ℕ) → List Row → List (List ℕ)
rows_lines places rows = flat_map (row_lines places) rows

-- The line of the candidate at place p was read into the lists.
pub record ReadsStanding (places p : ℕ) (states : List State) (keeps votes : List ℕ) (states' : List State) (keeps' votes' : List ℕ) (old new : List (List ℕ)) : Type 0 where
  pub state : State
  pub keep : ℕ
  pub vote : ℕ
  pub read : old ≡ standing_line places p state keep vote ∷ new
  pub states_are : states' ≡ slice_set states p state
  pub keeps_are : keeps' ≡ slice_set keeps p keep
  pub votes_are : votes' ≡ slice_set votes p vote

-- no iteration of so many candidates comes next
abbrev pub NoRow : (places n : ℕ) → (lines : List (List ℕ)) → Type 0
NoRow places n lines = (row : Row) (rest : List (List ℕ)) → IsPrintableRow places n row → lines ≢ row_lines places row ++ rest

-- what comes next are not iterations of so many candidates and then the line of the result
abbrev pub NoRows : (places n : ℕ) → (lines : List (List ℕ)) → Type 0
NoRows places n lines =
    (rows : List Row) (rest : List (List ℕ)) → All (IsPrintableRow places n) rows
    → lines ≢ rows_lines places rows ++ codes "result" ∷ rest
