-- Where the ballots of each batch are among the answered calls: those of batch b at index b - 1.
use Rattle.std.specs.Prelude.{◌≡◌, ℕ, ◌-◌, ◌<◌, ◌≤◌, List, [], Option, Some, None, IfSome, length, slice_get, slice_index_or, slice_set}
use Rattle.std.specs.List.{flat_map, range_with_len}
use Rattle.batch_core.specs.declared.limits.TheConstants.{LAST_NUMBER}
use Rattle.plain_ballots.specs.declared.ballot_line.BallotLine.{BallotLine}
use Rattle.batch_core.specs.declared.call.Call.{Call}
use Rattle.batch_core.specs.declared.call.Call.TheVariants.{Change as Changes, Freeze, Strike}
use Rattle.batch_core.specs.declared.reply.Reply.{Reply}
use Rattle.batch_core.specs.declared.reply.Reply.TheVariants.{Entered, Corrected, Withdrawn, Struck}
use Rattle.batch_core.specs.declared.entry.Entry.{Entry}
use Rattle.batch_core.specs.Book.{empty, batch_of, ballots_of, ballot_lines, lines_of, last_batch}
use Rattle.batch_core.specs.Histories.{after_all}

-- the lines that a call puts in
abbrev pub call_lines : Call → List BallotLine
call_lines (Changes change) = ballot_lines (ballots_of change)
call_lines Freeze = []
call_lines (Strike candidate) = []

abbrev pub entry_lines : Option Entry → List BallotLine
entry_lines None = []
entry_lines (Some e) = call_lines e.call

-- the lines that the call at a place puts in
abbrev pub lines_at : List Entry → Option ℕ → List BallotLine
lines_at history None = []
lines_at history (Some place) = entry_lines (slice_get history place)

-- the place of the call whose ballots are those of a batch, none where it has none
abbrev pub place_in : List (Option ℕ) → (number : ℕ) → Option ℕ
place_in places number = slice_index_or places (number - 1) None

-- the places after a change of this batch that has this reply, and whose place is this
abbrev pub placed : List (Option ℕ) → (number : ℕ) → Reply → (place : ℕ) → List (Option ℕ)
placed places number Entered place = slice_set places (number - 1) (Some place)
placed places number (Corrected revision) place = slice_set places (number - 1) (Some place)
placed places number (Withdrawn revision) place = slice_set places (number - 1) None
placed places number _ place = places

-- the places after a call that has this reply, and whose place is this
abbrev pub placed_by : List (Option ℕ) → Call → Reply → (place : ℕ) → List (Option ℕ)
placed_by places (Changes change) answer place = placed places (batch_of change) answer place
placed_by places Freeze answer place = places
placed_by places (Strike candidate) answer place = places

-- the candidate whom a call with this reply struck
abbrev pub struck_by : Call → Reply → Option ℕ
struck_by (Changes change) answer = None
struck_by Freeze answer = None
struck_by (Strike candidate) Struck = Some candidate
struck_by (Strike candidate) _ = None

-- Each batch has its ballots at its place, and none where it has no place.
pub record ArePlaces (history : List Entry) (places : List (Option ℕ)) : Type 0 where
  pub numbered : length places ≡ LAST_NUMBER
  pub within : (number : ℕ) → 1 ≤ number → IfSome (place_in places number) (λ place. place < length history)
  pub lines :
      (number : ℕ) → 1 ≤ number → number ≤ LAST_NUMBER
      → lines_of ((after_all empty history).batches number) ≡ lines_at history (place_in places number)

-- the lines at the places of so many batches, by rising number
abbrev pub first_lines : List Entry → List (Option ℕ) → (n : ℕ) → List BallotLine
first_lines history places n = flat_map (λ number. lines_at history (place_in places number)) (range_with_len 1 n)

-- the lines at the places of all batches
abbrev pub placed_lines : List Entry → List (Option ℕ) → List BallotLine
placed_lines history places = first_lines history places last_batch
