-- What a row of a shard's index says of a batch: its revision, and the place of the entry whose ballots stand.
use Rattle.std.specs.Prelude.{◌≡◌, ℕ, ◌≤◌, List, [], Option, Some, None, is_some, IfSome, slice_get, option_map}
use Rattle.batch_core.specs.declared.limits.TheConstants.{LAST_NUMBER}
use Rattle.plain_ballots.specs.declared.ballot_line.BallotLine.{BallotLine}
use Rattle.plain_ballots.specs.Ballots.{BallotList}
use Rattle.batch_core.specs.declared.batch.Batch.{Batch}
use Rattle.batch_core.specs.declared.call.Call.{Call}
use Rattle.batch_core.specs.declared.call.Call.TheVariants.{Change as Changes, Freeze, Strike}
use Rattle.batch_core.specs.declared.reply.Reply.{Reply}
use Rattle.batch_core.specs.declared.reply.Reply.TheVariants.{Entered, Corrected, Withdrawn}
use Rattle.batch_core.specs.declared.entry.Entry.{Entry}
use Rattle.batch_core.specs.Book.{BookState, ballots_of, ballot_lines}
use Rattle.shard_book.specs.declared.row.Row.{Row}

-- the ballots that a call puts in
abbrev pub call_ballots : Call → Option BallotList
call_ballots (Changes change) = ballots_of change
call_ballots Freeze = None
call_ballots (Strike candidate) = None

abbrev pub entry_ballots : Option Entry → Option BallotList
entry_ballots None = None
entry_ballots (Some e) = call_ballots e.call

-- the ballots of the entry at a place
abbrev pub ballots_at : List Entry → Option ℕ → Option BallotList
ballots_at entries None = None
ballots_at entries (Some place) = entry_ballots (slice_get entries place)

-- the lines of these ballots
abbrev pub lines_at : List Entry → Option ℕ → List BallotLine
lines_at entries place = ballot_lines (ballots_at entries place)

-- what is kept of a batch with this row
abbrev pub kept_by : List Entry → Row → Batch
kept_by entries row = record { revision = row.revision; standing = ballots_at entries row.place }

-- the row's revision is in bounds, and its place, if it has one, is that of an entry with ballots
abbrev pub IsRow : List Entry → Row → Type 0
IsRow entries row = (row.revision ≤ LAST_NUMBER) × (is_some (ballots_at entries row.place) ≡ is_some row.place)

-- some batch with the row's revision, at which the row has a place
abbrev pub outline : Row → Batch
outline row = record { revision = row.revision; standing = option_map (λ place. record { candidates = 0; lines = [] }) row.place }

-- the row after a change with this reply, whose entry comes to this place
abbrev pub row_after : Row → Reply → ℕ → Row
row_after row Entered place = record { revision = 1; place = Some place }
row_after row (Corrected revision) place = record { revision = revision; place = Some place }
row_after row (Withdrawn revision) place = record { revision = revision; place = None }
row_after row _ place = row

-- the place of the entry whose ballots stand in a batch of which the index has this
abbrev pub standing_place : Option Row → Option ℕ
standing_place None = None
standing_place (Some row) = row.place

-- what the index has of a batch after a change with this reply
abbrev pub index_after : Option Row → Reply → ℕ → Option Row
index_after None Entered place = Some (record { revision = 1; place = Some place })
index_after None _ place = None
index_after (Some row) answer place = Some (row_after row answer place)

-- the index agrees with the book after the entries
abbrev pub AreRows : List Entry → (ℕ → Option Row) → BookState → Type 0
AreRows entries index book = (b : ℕ) → IfSome (index b) (IsRow entries) × (option_map (kept_by entries) (index b) ≡ book.batches b)
