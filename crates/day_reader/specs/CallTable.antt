-- What is expected within a call, and what an item leads to there.
use Rattle.std.specs.Prelude.{ℕ, List, [], Bool, ◌&&◌, if◌then◌else◌, nat_le, Ok, Err}
use Rattle.batch_core.specs.declared.limits.TheConstants.{LAST_NUMBER, MOST_OF_BATCH}
use Rattle.plain_ballots.specs.declared.ballot_line.BallotLine.{BallotLine}
use Rattle.batch_core.specs.declared.change.Change.TheVariants.{Enter, Correct, Withdraw}
use Rattle.batch_core.specs.declared.call.Call.{Call}
use Rattle.batch_core.specs.declared.call.Call.TheVariants.{Change, Strike}
use Rattle.input_text.specs.declared.fault_kind.FaultKind.{FaultKind}
use Rattle.input_text.specs.declared.fault_kind.FaultKind.TheVariants.{BadNumber, NoSuchCandidate, BadBatch, BadRevision, BatchTooLarge}
use Rattle.input_text.specs.Token.{Item, Number}
use Rattle.input_text.specs.Judged.{Judged, then_on, Progress, GoesOn, Ends, carried_to}
use Rattle.blt_reader.specs.BallotTable.{Limit, Lines, Between, at_line}

-- ---- numbers

-- a number that passes a test; another number is refused for this reason
abbrev pub as_tested : (ℕ → Bool) → FaultKind → Item → Judged ℕ
as_tested test refusal (Number n) = if test n then Ok n else Err refusal
as_tested test refusal item = Err BadNumber

abbrev pub is_between : ℕ → ℕ → ℕ → Bool
is_between least most n = nat_le least n && nat_le n most

-- a number from the least to the most
abbrev pub as_between : ℕ → ℕ → FaultKind → Item → Judged ℕ
as_between least most refusal = as_tested (is_between least most) refusal

abbrev pub as_batch : Item → Judged ℕ
as_batch = as_between 1 LAST_NUMBER BadBatch

abbrev pub as_revision : Item → Judged ℕ
as_revision = as_between 1 LAST_NUMBER BadRevision

-- ---- a call after its word

pub data InCall : Type 0 where
  -- a batch number
  EnterBatch : InCall
  CorrectBatch : InCall
  WithdrawBatch : InCall
  -- a revision of this batch
  CorrectRevision : (batch : ℕ) → InCall
  WithdrawRevision : (batch : ℕ) → InCall
  -- a count, or a candidate or 0, of ballots that are entered
  EnterLines : (batch : ℕ) (lines : Lines) → InCall
  CorrectLines : (batch revision : ℕ) (lines : Lines) → InCall
  -- a candidate to strike
  StrikeCandidate : InCall

-- a batch has at most 100,000 ballots
abbrev pub of_a_batch : Limit
of_a_batch = record { most = MOST_OF_BATCH; refusal = BatchTooLarge }

abbrev pub entered : ℕ → ℕ → List BallotLine → Call
entered candidates batch lines = Change (Enter batch (record { candidates = candidates; lines = lines }))

abbrev pub corrected : ℕ → ℕ → ℕ → List BallotLine → Call
corrected candidates batch revision lines = Change (Correct batch revision (record { candidates = candidates; lines = lines }))

unfoldable pub at_call : ℕ → InCall → Item → Judged (Progress InCall Call)
at_call candidates EnterBatch item = then_on (as_batch item) (λ batch. Ok (GoesOn (EnterLines batch (Between []))))
at_call candidates CorrectBatch item = then_on (as_batch item) (λ batch. Ok (GoesOn (CorrectRevision batch)))
at_call candidates WithdrawBatch item = then_on (as_batch item) (λ batch. Ok (GoesOn (WithdrawRevision batch)))
at_call candidates (CorrectRevision batch) item = then_on (as_revision item) (λ revision. Ok (GoesOn (CorrectLines batch revision (Between []))))
at_call candidates (WithdrawRevision batch) item = then_on (as_revision item) (λ revision. Ok (Ends (Change (Withdraw batch revision))))
at_call candidates (EnterLines batch lines) item = carried_to (λ more. GoesOn (EnterLines batch more)) (λ all. Ends (entered candidates batch all)) (at_line candidates of_a_batch lines item)
at_call candidates (CorrectLines batch revision lines) item = carried_to (λ more. GoesOn (CorrectLines batch revision more)) (λ all. Ends (corrected candidates batch revision all)) (at_line candidates of_a_batch lines item)
at_call candidates StrikeCandidate item = then_on (as_between 1 candidates NoSuchCandidate item) (λ candidate. Ok (Ends (Strike candidate)))
