-- What is before the ballots of a file, as the code reads it.
use Rattle.std.specs.Prelude.{◌≡◌, ◌<◌, ℕ, List, [], ◌∷◌, ◌++◌, length, Bool, true, false, slice_index_or, All, Result, Ok, Err, ◌⊎◌}
use Rattle.plain_ballots.specs.declared.limits.TheConstants.{MOST_CANDIDATES}
use Rattle.candidate_roll.specs.Roll.{is_listed, withdrawn_marks}
use Rattle.input_text.specs.declared.input_stop.InputStop.{InputStop}
use Rattle.input_text.specs.declared.input_stop.InputStop.TheVariants as stop
use Rattle.blt_reader.specs.declared.opening.Opening.{Opening}
use Rattle.input_text.specs.Token.{Number, Scan, with_front}
use Rattle.input_text.specs.Range.{IsIn}
use Rattle.input_text.specs.Judged.{reads}
use Rattle.blt_reader.specs.BallotTable.{Limit, Between}
use Rattle.blt_reader.specs.BltTable.{Candidates, Withdrawn, Ballots, at_token}

-- marks of the listed numbers
abbrev pub Marks : List Bool → List ℕ → Type 0
Marks marks listed = (n : ℕ) → n < length marks → slice_index_or marks n false ≡ is_listed listed n

-- a number is on the list besides, where it did not before
abbrev pub IsListedMore : List ℕ → ℕ → List ℕ → Type 0
IsListedMore old n new = ((new ≡ old) × (is_listed old n ≡ true)) ⊎ (new ≡ old ++ n ∷ [])

-- After these withdrawn candidates a text goes on as at the start. Of equal ones the code keeps one.
pub record IsWithdrawn (candidates : ℕ) (start : Scan) (withdrawn : List ℕ) (rest : Scan) : Type 0 where
  pub listed : List ℕ
  pub alike : (n : ℕ) → is_listed listed n ≡ is_listed withdrawn n
  pub same : (limit : Limit) (seats : ℕ) → reads (at_token limit) (Withdrawn (record { candidates = candidates; seats = seats; withdrawn = [] })) start
      ≡ reads (at_token limit) (Withdrawn (record { candidates = candidates; seats = seats; withdrawn = listed })) rest

abbrev pub ReadsWithdrawn : ℕ → Scan → List ℕ → Result (ℕ × ℕ) InputStop → Scan → Type 0
ReadsWithdrawn candidates old withdrawn (Ok first) new = IsWithdrawn candidates old withdrawn (with_front (record { at = first.1; item = Number first.0 }) new)
ReadsWithdrawn candidates old withdrawn (Err (stop.Fault fault)) new = (limit : Limit) (seats : ℕ) → reads (at_token limit) (Withdrawn (record { candidates = candidates; seats = seats; withdrawn = [] })) old ≡ Err (record { fault = fault; rest = new })
ReadsWithdrawn candidates old withdrawn (Err stop.NoMemory) new = Unit {0}

pub record IsOpening (opening : Opening) : Type 0 where
  pub candidates : IsIn MOST_CANDIDATES opening.candidates
  pub seats : IsIn MOST_CANDIDATES opening.seats
  pub withdrawn : All (IsIn opening.candidates) opening.withdrawn.items

-- After an opening the first count is expected.
pub record IsOpened (start : Scan) (opening : Opening) (rest : Scan) : Type 0 where
  pub listed : List ℕ
  pub marks : withdrawn_marks opening.candidates listed ≡ withdrawn_marks opening.candidates opening.withdrawn.items
  pub same : (limit : Limit) → reads (at_token limit) Candidates start
      ≡ reads (at_token limit) (Ballots (record { candidates = opening.candidates; seats = opening.seats; withdrawn = listed }) (Between [])) (with_front (record { at = opening.first.1; item = Number opening.first.0 }) rest)

abbrev pub ReadsOpening : Scan → Result Opening InputStop → Scan → Type 0
ReadsOpening old (Ok opening) new = IsOpened old opening new
ReadsOpening old (Err (stop.Fault fault)) new = (limit : Limit) → reads (at_token limit) Candidates old ≡ Err (record { fault = fault; rest = new })
ReadsOpening old (Err stop.NoMemory) new = Unit {0}
