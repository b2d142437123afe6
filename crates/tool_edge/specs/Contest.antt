-- What a ballot file and the lots of the words say together, or why they are refused.
use Rattle.std.specs.Prelude.{◌≡◌, ◌⊎◌, ℕ, ◌+◌, List, length, false, Result, Ok, Err}
use Rattle.plain_ballots.specs.declared.limits.TheConstants.{MOST_BALLOTS}
use Rattle.plain_ballots.specs.declared.ballot_line.BallotLine.{BallotLine}
use Rattle.lot_order.specs.Lots.{IsOrder, IsTwiceAt, IsOutOfRangeAt, IsFirstMissing}
use Rattle.lot_order.specs.declared.lots_stop.LotsStop.{LotsStop}
use Rattle.lot_order.specs.declared.lots_stop.LotsStop.TheVariants.{NotAll, Twice, OutOfRange, NoMemory as NoLots}
use Rattle.input_text.specs.declared.fault_kind.FaultKind.TheVariants.{BadLots}
use Rattle.input_text.specs.declared.input_fault.InputFault.{InputFault}
use Rattle.input_text.specs.declared.input_stop.InputStop.{InputStop}
use Rattle.input_text.specs.declared.input_stop.InputStop.TheVariants.{Fault, NoMemory}
use Rattle.input_text.specs.Scan.{scan}
use Rattle.blt_reader.specs.Poll.{Poll}
use Rattle.blt_reader.specs.Election.{poll, poll_of_lines}
use Rattle.blt_reader.specs.Blt.{IsBlt}
use Rattle.input_text.specs.Refusal.{IsAccepted}
use Rattle.blt_reader.specs.Said.{of_a_file, IsFileRefusal}
use Rattle.tool_edge.specs.declared.contest.Contest.{Contest}
use Rattle.tool_edge.specs.declared.contest.StoredContest.{StoredContest}

-- The input is the ballot file of this poll.
abbrev pub SaysPoll : (input : List ℕ) → Poll → Type 0
SaysPoll input poll = IsAccepted (IsBlt MOST_BALLOTS) (scan input false) poll

abbrev pub IsRefusedFile : (input : List ℕ) → InputFault → Type 0
IsRefusedFile input fault = IsFileRefusal of_a_file (scan input false) fault

-- The place in the list, from 1, of the first number that is no candidate or has stood before; where there is none
-- and a candidate is missing, the place after the last.
abbrev pub IsBadPlace : ℕ → List ℕ → ℕ → Type 0
IsBadPlace n lots place =
    IsTwiceAt n lots place
    ⊎ (IsOutOfRangeAt n lots place ⊎ ((c : ℕ) × IsFirstMissing n lots c × (place ≡ length lots + 1)))

-- what lots of this length are refused for, or that memory is wanted
abbrev pub lots_stop : ℕ → LotsStop → InputStop
lots_stop len (NotAll c) = Fault (record { kind = BadLots; at = len + 1 })
lots_stop len (Twice place) = Fault (record { kind = BadLots; at = place })
lots_stop len (OutOfRange place) = Fault (record { kind = BadLots; at = place })
lots_stop len NoLots = NoMemory

-- The input is the file of this poll, and the lots are an order of its candidates.
pub record SaysContest (lots input : List ℕ) (poll : Poll) : Type 0 where
  pub file : SaysPoll input poll
  pub order : IsOrder lots
  pub lots_of_all : length lots ≡ length poll.roll.names

-- The input is a file, and the lots are no order of its candidates.
pub record HasBadLots (lots input : List ℕ) (fault : InputFault) : Type 0 where
  pub poll : Poll
  pub file : SaysPoll input poll
  pub place : ℕ
  pub lots_at : IsBadPlace (length poll.roll.names) lots place
  pub fault_is : fault ≡ record { kind = BadLots; at = place }

-- The file is refused, or else the lots.
abbrev pub IsRefusedContest : (lots input : List ℕ) → InputFault → Type 0
IsRefusedContest lots input fault = IsRefusedFile input fault ⊎ HasBadLots lots input fault

-- a contest as it was read, with these lots
pub record IsContest (lots input : List ℕ) (contest : Contest) : Type 0 where
  pub says : SaysContest lots input (poll contest.election)
  pub lots_are : contest.lots ≡ lots
  pub ballots_of_all : contest.election.ballots.candidates ≡ length contest.election.roll.names

-- Ok is what the lots and the file say; a fault is why they are refused.
abbrev pub ReadsContest : (lots input : List ℕ) → Result Contest InputStop → Type 0
ReadsContest lots input (Ok contest) = IsContest lots input contest
ReadsContest lots input (Err (Fault fault)) = IsRefusedContest lots input fault
ReadsContest lots input (Err NoMemory) = Unit {0}

-- ---- a file whose ballots are in a store

-- A contest as it was read, with these lots, whose store holds the lines of the file.
pub record IsStoredContest {B : Type 0} (holds : B → List BallotLine → Type 0) (among : B → ℕ) (lots input : List ℕ)
    (contest : StoredContest B) : Type 0 where
  pub lines : List BallotLine
  pub held : holds contest.election.ballots lines
  pub says : SaysContest lots input (poll_of_lines contest.election lines)
  pub lots_are : contest.lots ≡ lots
  pub ballots_of_all : among contest.election.ballots ≡ length contest.election.roll.names

-- Ok is what the lots and the file say; what stops is what stops the reading of any contest.
abbrev pub ReadsStored :
    {B : Type 0} → (B → List BallotLine → Type 0) → (B → ℕ) → (lots input : List ℕ)
    → Result (StoredContest B) InputStop → Type 0
ReadsStored holds among lots input (Ok contest) = IsStoredContest holds among lots input contest
ReadsStored holds among lots input (Err stop) = ReadsContest lots input (Err stop)

-- ---- a file after other bytes

-- a fault of what is after so many bytes, at its place in the whole
abbrev pub behind : ℕ → InputFault → InputFault
behind before fault = record { kind = fault.kind; at = before + fault.at }

abbrev pub stop_behind : ℕ → InputStop → InputStop
stop_behind before (Fault fault) = Fault (behind before fault)
stop_behind before NoMemory = NoMemory

-- The file after so many bytes is refused at its place in the whole, or else the lots at their place in the list.
abbrev pub IsRefusedBehind : (before : ℕ) → (lots file : List ℕ) → InputFault → Type 0
IsRefusedBehind before lots file fault =
    ((of_file : InputFault) × IsRefusedFile file of_file × (fault ≡ behind before of_file)) ⊎ HasBadLots lots file fault

-- Ok is what the lots and the file say; a fault is why they are refused, at its place in the whole.
abbrev pub ReadsBehind : (before : ℕ) → (lots file : List ℕ) → Result Contest InputStop → Type 0
ReadsBehind before lots file (Ok contest) = IsContest lots file contest
ReadsBehind before lots file (Err (Fault fault)) = IsRefusedBehind before lots file fault
ReadsBehind before lots file (Err NoMemory) = Unit {0}
