-- What the parts of a ballot file give.
use Rattle.std.specs.Prelude.{◌≡◌, ℕ, ◌≤◌, List, [], length, slice_index_or, if◌then◌else◌, nat_le, ◌==◌, Bool, false, Result, Ok, Err}
use Rattle.std.specs.List.{list_any}
use Rattle.plain_ballots.specs.declared.limits.TheConstants.{MOST_CANDIDATES}
use Rattle.plain_ballots.specs.declared.ballot_line.BallotLine.{BallotLine}
use Rattle.input_text.specs.declared.fault_kind.FaultKind.TheVariants.{BadHeader, NameExpected, TooLongName}
use Rattle.input_text.specs.declared.input_fault.InputFault.{InputFault}
use Rattle.input_text.specs.declared.input_stop.InputStop.{InputStop}
use Rattle.input_text.specs.declared.input_stop.InputStop.TheVariants as stop
use Rattle.input_text.specs.Token.{Item, Number, Text, Scan}
use Rattle.input_text.specs.Judged.{Judged, outcome, Ends, ended, reads}
use Rattle.input_text.specs.Range.{is_in}
use Rattle.blt_reader.specs.declared.election.Election.{Election}
use Rattle.blt_reader.specs.Poll.{Poll}
use Rattle.blt_reader.specs.Election.{poll}
use Rattle.blt_reader.specs.BallotTable.{Limit}
use Rattle.blt_reader.specs.BltTable.{Heading, behind_name, at_token, at_file_token}

-- ---- one token

-- a number of candidates or seats
abbrev pub as_size : Item → Judged ℕ
as_size (Number n) = if is_in MOST_CANDIDATES n then Ok n else Err BadHeader
as_size item = Err BadHeader

-- a name, or a title, of at most so many bytes
abbrev pub as_name : ℕ → Item → Judged (List ℕ)
as_name most (Text bytes) = if nat_le (length bytes) most then Ok bytes else Err TooLongName
as_name most item = Err NameExpected

-- ---- ballots

-- just the candidates among these ranks are marked
abbrev pub Marks : ℕ → List Bool → List ℕ → Type 0
Marks candidates named ranks = (n : ℕ) → n ≤ candidates → slice_index_or named n false ≡ list_any (λ r. r == n) ranks

-- ---- parts of a ballot file

-- the names after any ballots of so many candidates
abbrev pub ReadsNames : ℕ → Scan → Result (List (List ℕ)) InputStop → Scan → Type 0
ReadsNames candidates old (Ok names) new = (limit : Limit) (heading : Heading) (lines : List BallotLine) → heading.candidates ≡ candidates
    → reads (at_token limit) (behind_name heading lines []) old ≡ reads (at_token limit) (behind_name heading lines names) new
ReadsNames candidates old (Err (stop.Fault fault)) new = (limit : Limit) (heading : Heading) (lines : List BallotLine) → heading.candidates ≡ candidates
    → reads (at_token limit) (behind_name heading lines []) old ≡ Err (record { fault = fault; rest = new })
ReadsNames candidates old (Err stop.NoMemory) new = Unit {0}

-- the end of a whole file, after its title
abbrev pub ReadsFurther : Scan → Result (Unit {0}) InputFault → Type 0
ReadsFurther text (Ok done) = (limit : Limit) (poll : Poll) → outcome (at_file_token limit) ended (Ends poll) text.tokens text.ending ≡ Ok poll
ReadsFurther text (Err fault) = (limit : Limit) (poll : Poll) → outcome (at_file_token limit) ended (Ends poll) text.tokens text.ending ≡ Err fault

-- what was found is the poll that was said, and the fault the refusal
abbrev pub Says : {R : Type 0} → (R → Poll) → Result Poll InputFault → Result R InputStop → Type 0
Says value said (Ok found) = said ≡ Ok (value found)
Says value said (Err (stop.Fault fault)) = said ≡ Err fault
Says value said (Err stop.NoMemory) = Unit {0}

abbrev pub SaysFile : Result Poll InputFault → Result Election InputStop → Type 0
SaysFile = Says poll
