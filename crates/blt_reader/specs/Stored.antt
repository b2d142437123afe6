-- Reading ballots into a store, which holds their lines in a form of its own.
use Rattle.std.specs.Prelude.{ℕ, List, Result, IfOk}
use Rattle.plain_ballots.specs.declared.ballot_line.BallotLine.{BallotLine}
use Rattle.input_text.specs.declared.input_fault.InputFault.{InputFault}
use Rattle.input_text.specs.declared.input_stop.InputStop.{InputStop}
use Rattle.input_text.specs.Token.{Item, Scan}
use Rattle.input_text.specs.Judged.{Judged, Progress}
use Rattle.input_text.specs.Reads.{Reads}
use Rattle.blt_reader.specs.declared.election.StoredElection.{StoredElection}
use Rattle.blt_reader.specs.Blt.{AreLines}
use Rattle.blt_reader.specs.Election.{poll_of_lines}
use Rattle.blt_reader.specs.Poll.{Poll}
use Rattle.blt_reader.specs.Reads.{Says}

-- The result is that of reading these lines, which what was found holds.
abbrev pub ReadsHeld :
    {S V R : Type 0} → (R → List BallotLine → Type 0) → (S → Item → Judged (Progress S V)) → S
    → (R → List BallotLine → V) → Scan → Result R InputStop → Scan → Type 0
ReadsHeld holds table expected value old result new =
    (lines : List BallotLine) × IfOk result (λ found. holds found lines)
    × Reads table expected (λ found. value found lines) old result new

-- The store holds lines of ballots among so many candidates, of together at most so many.
abbrev pub HoldsLines : {B : Type 0} → (B → List BallotLine → Type 0) → (candidates most : ℕ) → B → Type 0
HoldsLines holds candidates most store = (lines : List BallotLine) × holds store lines × AreLines candidates most lines

-- The election is the poll that was said, its lines held by the store, and the fault the refusal.
abbrev pub SaysStored :
    {B : Type 0} → (B → List BallotLine → Type 0) → Result Poll InputFault → Result (StoredElection B) InputStop → Type 0
SaysStored holds said result =
    (lines : List BallotLine) × IfOk result (λ election. holds election.ballots lines)
    × Says (λ election. poll_of_lines election lines) said result
