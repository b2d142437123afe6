-- The plain book: what it keeps, how it answers a call, and what it keeps afterwards.
use Rattle.std.specs.Prelude.{ℕ, ◌+◌, ◌==◌, ◌++◌, ◌∷◌, [], if◌then◌else◌, not, Bool, List, Option, Some, None, is_none, unwrap_or}
use Rattle.batch_core.specs.declared.limits.TheConstants.{LAST_NUMBER}
use Rattle.std.specs.List.{flat_map, range_with_len, list_any}
use Rattle.std.specs.Map.{lookup}
use Rattle.std.specs.BTreeMap.{is_at}
use Rattle.std.specs.Ordering.{nat_cmp}
use Rattle.plain_ballots.specs.Ballots.{BallotList}
use Rattle.plain_ballots.specs.declared.ballot_line.BallotLine.{BallotLine}
use Rattle.batch_core.specs.declared.batch.Batch.{Batch}
use Rattle.batch_core.specs.declared.change.Change.{Change}
use Rattle.batch_core.specs.declared.change.Change.TheVariants.{Enter, Correct, Withdraw}
use Rattle.batch_core.specs.declared.call.Call.{Call}
use Rattle.batch_core.specs.declared.call.Call.TheVariants.{Change as Changes, Freeze, Strike}
use Rattle.batch_core.specs.declared.reply.Reply.{Reply}
use Rattle.batch_core.specs.declared.reply.Reply.TheVariants.{Entered, Corrected, Withdrawn, Frozen, Exists, Unknown, Gone, Stale, Spent, Struck, AlreadyStruck}

-- the batches that were entered, by their numbers, each with its revision and its ballots, or none where it is
-- gone; and the struck candidates in the order of striking
pub record BookState : Type 0 where
  pub batches : ℕ → Option Batch
  pub struck : List ℕ

-- what the book of so many candidates is seen as: its batches are listed by rising number
pub record BookList : Type 0 where
  pub candidates : ℕ
  pub batches : List (ℕ × Batch)
  pub struck : List ℕ

-- the listed batches by their numbers
abbrev pub by_number : List (ℕ × Batch) → ℕ → Option Batch
by_number batches number = lookup (is_at (nat_cmp number)) batches

abbrev pub state_of : BookList → BookState
state_of book = record { batches = by_number book.batches; struck = book.struck }

-- nothing was entered and nobody struck
abbrev pub empty : BookState
empty = record { batches = λ number. None; struck = [] }

-- the number of the batch that a change is of
abbrev pub batch_of : Change → ℕ
batch_of (Enter batch ballots) = batch
batch_of (Correct batch revision ballots) = batch
batch_of (Withdraw batch revision) = batch

-- the ballots that a change puts in, if any
abbrev pub ballots_of : Change → Option BallotList
ballots_of (Enter batch ballots) = Some ballots
ballots_of (Correct batch revision ballots) = Some ballots
ballots_of (Withdraw batch revision) = None

-- why a correction or withdrawal of an entered batch that names this revision is refused, if it is: first where
-- the batch is gone, then where another revision is current, then where the current one is the last
abbrev pub refusal : Batch → ℕ → Option Reply
refusal batch revision =
    if is_none batch.standing then Some (Gone batch.revision)
    else if not (revision == batch.revision) then Some (Stale batch.revision)
    else if batch.revision == LAST_NUMBER then Some Spent
    else None

-- the reply to a change, by what is kept of its batch
abbrev pub change_reply : Option Batch → Change → Reply
change_reply None (Enter number ballots) = Entered
change_reply None (Correct number revision ballots) = Unknown
change_reply None (Withdraw number revision) = Unknown
change_reply (Some batch) (Enter number ballots) = Exists batch.revision
change_reply (Some batch) (Correct number revision ballots) = unwrap_or (refusal batch revision) (Corrected (batch.revision + 1))
change_reply (Some batch) (Withdraw number revision) = unwrap_or (refusal batch revision) (Withdrawn (batch.revision + 1))

-- what is kept of the batch after a change with this reply: every other reply changes nothing
abbrev pub change_after : Option Batch → Change → Reply → Option Batch
change_after kept change Entered = Some (record { revision = 1; standing = ballots_of change })
change_after kept change (Corrected revision) = Some (record { revision = revision; standing = ballots_of change })
change_after kept change (Withdrawn revision) = Some (record { revision = revision; standing = None })
change_after kept change _ = kept

abbrev pub is_struck : List ℕ → ℕ → Bool
is_struck struck candidate = list_any (λ c. c == candidate) struck

-- the reply to a strike, by the candidates struck before
abbrev pub strike_reply : List ℕ → ℕ → Reply
strike_reply struck candidate = if is_struck struck candidate then AlreadyStruck else Struck

-- the struck candidates after a strike
abbrev pub strike : List ℕ → ℕ → List ℕ
strike struck candidate = if is_struck struck candidate then struck else struck ++ candidate ∷ []

-- the reply of a book to a call
abbrev pub reply : BookState → Call → Reply
reply book (Changes change) = change_reply (book.batches (batch_of change)) change
reply book Freeze = Frozen
reply book (Strike candidate) = strike_reply book.struck candidate

-- the batches with one of them replaced
abbrev pub replaced : (ℕ → Option Batch) → ℕ → Option Batch → ℕ → Option Batch
replaced batches number kept b = if b == number then kept else batches b

-- the batches after a change of one of them
abbrev pub changed : (ℕ → Option Batch) → Change → ℕ → Option Batch
changed batches change =
    let kept = batches (batch_of change) in
    replaced batches (batch_of change) (change_after kept change (change_reply kept change))

-- the book after a call
abbrev pub after : BookState → Call → BookState
after book (Changes change) = record book { batches = changed book.batches change }
after book Freeze = book
after book (Strike candidate) = record book { struck = strike book.struck candidate }

abbrev pub ballot_lines : Option BallotList → List BallotLine
ballot_lines None = []
ballot_lines (Some ballots) = ballots.lines

-- the lines of a batch that stands
abbrev pub lines_of : Option Batch → List BallotLine
lines_of None = []
lines_of (Some batch) = ballot_lines batch.standing

-- the greatest batch number
unfoldable pub last_batch : ℕ
last_batch = LAST_NUMBER

-- the lines of all batches that stand, by rising batch number
abbrev pub standing : BookState → List BallotLine
standing book = flat_map (λ number. lines_of (book.batches number)) (range_with_len 1 last_batch)
