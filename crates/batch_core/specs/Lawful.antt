-- Which changes and calls a book of so many candidates takes.
use Rattle.std.specs.Prelude.{◌≡◌, ℕ, ◌≤◌, ⊤, List, All, Option, Some, None}
use Rattle.batch_core.specs.declared.limits.TheConstants.{LAST_NUMBER, MOST_OF_BATCH}
use Rattle.plain_ballots.specs.declared.limits.TheConstants.{MOST_CANDIDATES}
use Rattle.plain_ballots.specs.Ballots.{BallotList, ballot_count}
use Rattle.batch_core.specs.declared.batch.Batch.{Batch}
use Rattle.batch_core.specs.declared.change.Change.{Change}
use Rattle.batch_core.specs.declared.change.Change.TheVariants.{Enter, Correct, Withdraw}
use Rattle.batch_core.specs.declared.call.Call.{Call}
use Rattle.batch_core.specs.declared.call.Call.TheVariants.{Change as Changes, Freeze, Strike}
use Rattle.batch_core.specs.declared.entry.Entry.{Entry}

-- batches are numbered from 1 to 9,999, and so are the revisions of a batch
abbrev pub IsInRange : ℕ → Type 0
IsInRange n = (1 ≤ n) × (n ≤ LAST_NUMBER)

-- ballots of this number of candidates, at most 100,000
abbrev pub IsOfBatch : ℕ → BallotList → Type 0
IsOfBatch candidates ballots = (ballots.candidates ≡ candidates) × (ballot_count ballots.lines ≤ MOST_OF_BATCH)

-- a change that a book of so many candidates takes
abbrev pub IsLawful : ℕ → Change → Type 0
IsLawful candidates (Enter batch ballots) = IsInRange batch × IsOfBatch candidates ballots
IsLawful candidates (Correct batch revision ballots) = IsInRange batch × IsInRange revision × IsOfBatch candidates ballots
IsLawful candidates (Withdraw batch revision) = IsInRange batch × IsInRange revision

-- a call that a book of so many candidates takes
abbrev pub MayStep : ℕ → Call → Type 0
MayStep candidates (Changes change) = IsLawful candidates change
MayStep candidates Freeze = ⊤
MayStep candidates (Strike candidate) = (1 ≤ candidate) × (candidate ≤ MOST_CANDIDATES)

-- a book of so many candidates takes each of these calls
abbrev pub AreLawful : ℕ → List Entry → Type 0
AreLawful candidates history = All (λ e. MayStep candidates e.call) history

-- the ballots of a batch, if it isn't gone
abbrev pub AreOfBatch : ℕ → Option BallotList → Type 0
AreOfBatch candidates None = ⊤
AreOfBatch candidates (Some ballots) = IsOfBatch candidates ballots

-- what lawful changes leave of a batch number
abbrev pub IsKept : ℕ → ℕ → Option Batch → Type 0
IsKept candidates number None = ⊤
IsKept candidates number (Some batch) = IsInRange number × IsInRange batch.revision × AreOfBatch candidates batch.standing

-- what lawful changes leave of all batch numbers
abbrev pub AreKept : ℕ → (ℕ → Option Batch) → Type 0
AreKept candidates batches = (number : ℕ) → IsKept candidates number (batches number)
