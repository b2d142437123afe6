-- How a book, what is kept of its batches, and the board agree.
use Rattle.std.specs.Prelude.{◌≡◌, ℕ, ◌+◌, ◌-◌, ◌≤◌, List, [], length, slice_index, slice_index_or, Option, Some, None}
use Rattle.plain_ballots.specs.declared.limits.TheConstants.{MOST_BALLOTS, MOST_CANDIDATES}
use Rattle.plain_ballots.specs.declared.ballot_line.BallotLine.{BallotLine}
use Rattle.plain_ballots.specs.Ballots.{BallotList, plain}
use Rattle.batch_core.specs.declared.limits.TheConstants.{LAST_NUMBER}
use Rattle.batch_core.specs.declared.batch.Batch.{Batch}
use Rattle.batch_core.specs.declared.change.Change.{Change}
use Rattle.batch_core.specs.declared.reply.Reply.{Reply}
use Rattle.batch_core.specs.Book.{BookState, empty, lines_of, standing, change_after}
use Rattle.batch_core.specs.Histories.{after_all, IsLegal}
use Rattle.batch_core.specs.Lawful.{AreLawful, IsInRange}
use Rattle.tally_board.specs.Moves.{totals_after}
use Rattle.tally_cli.specs.declared.hall.Hall.{Hall}
use Rattle.tally_cli.specs.First.{first}

-- the number of a candidate
abbrev pub total : List ℕ → ℕ → ℕ
total totals c = slice_index totals (c - 1)

-- the ballots that are kept for a batch
abbrev pub kept_for : ℕ → List BallotList → ℕ → BallotList
kept_for candidates kept batch = slice_index_or kept (batch - 1) (record { candidates = candidates; lines = [] })

-- for each batch its standing lines are kept
pub record AreKept (candidates : ℕ) (book : BookState) (kept : List BallotList) : Type 0 where
  pub all : length kept ≡ LAST_NUMBER
  pub of_candidates : (batch : ℕ) → IsInRange batch → (kept_for candidates kept batch).candidates ≡ candidates
  pub lines : (batch : ℕ) → IsInRange batch → (kept_for candidates kept batch).lines ≡ lines_of (book.batches batch)

-- the board shows the first preferences of the ballots that stand in the book of all batches
pub record IsShown (hall : Hall) : Type 0 where
  pub few : hall.book.candidates ≤ MOST_CANDIDATES
  pub shard : hall.book.shard ≡ 1
  pub shards : hall.book.shards ≡ 1
  pub legal : IsLegal hall.book.entries
  pub lawful : AreLawful hall.book.candidates hall.book.entries
  pub candidates : hall.scribe.candidates ≡ hall.book.candidates
  pub pending : hall.scribe.pending ≡ []
  pub kept : AreKept hall.book.candidates (after_all empty hall.book.entries) hall.kept.items
  pub totals : (c : ℕ) → 1 ≤ c → c ≤ hall.book.candidates
      → total (totals_after hall.book.candidates hall.scribe.published) c ≡ first (plain (standing (after_all empty hall.book.entries))) c

-- the old ballots are there to go, and with the new ones no candidate has more than 999,999,999
pub record CanExchange (candidates : ℕ) (totals : List ℕ) (old new : List BallotLine) : Type 0 where
  pub going : (c : ℕ) → 1 ≤ c → c ≤ candidates → first (plain old) c ≤ total totals c
  pub coming : (c : ℕ) → 1 ≤ c → c ≤ candidates → total totals c - first (plain old) c + first (plain new) c ≤ MOST_BALLOTS

-- the totals once the old ballots have gone and the new ones have come
abbrev pub AreExchanged : ℕ → (totals : List ℕ) → (old new : List BallotLine) → List ℕ → Type 0
AreExchanged candidates totals old new totals_then =
    (c : ℕ) → 1 ≤ c → c ≤ candidates → total totals_then c ≡ total totals c - first (plain old) c + first (plain new) c

-- the ballots of its batch after a change with this reply, if it was carried out
abbrev pub IsLeft : Change → Reply → Option BallotList → Type 0
IsLeft change answer None = (before : Option Batch) → change_after before change answer ≡ before
IsLeft change answer (Some ballots) = (before : Option Batch) → lines_of (change_after before change answer) ≡ ballots.lines
