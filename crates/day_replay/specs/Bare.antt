-- Calls and books without ballots: no reply depends on a ballot.
use Rattle.std.specs.Prelude.{[], option_map}
use Rattle.plain_ballots.specs.Ballots.{BallotList}
use Rattle.batch_core.specs.declared.batch.Batch.{Batch}
use Rattle.batch_core.specs.declared.change.Change.{Change}
use Rattle.batch_core.specs.declared.change.Change.TheVariants.{Enter, Correct, Withdraw}
use Rattle.batch_core.specs.declared.call.Call.{Call}
use Rattle.batch_core.specs.declared.call.Call.TheVariants.{Change as Changes, Freeze, Strike}
use Rattle.batch_core.specs.Book.{BookState}

-- no ballots among as many candidates
abbrev pub bare_ballots : BallotList → BallotList
bare_ballots ballots = record { candidates = ballots.candidates; lines = [] }

-- the same change without its ballots
abbrev pub bare_change : Change → Change
bare_change (Enter batch ballots) = Enter batch (bare_ballots ballots)
bare_change (Correct batch revision ballots) = Correct batch revision (bare_ballots ballots)
bare_change (Withdraw batch revision) = Withdraw batch revision

-- the same call without its ballots
abbrev pub bare_call : Call → Call
bare_call (Changes change) = Changes (bare_change change)
bare_call Freeze = Freeze
bare_call (Strike candidate) = Strike candidate

abbrev pub bare_batch : Batch → Batch
bare_batch batch = record { revision = batch.revision; standing = option_map bare_ballots batch.standing }

-- the same book without its ballots
abbrev pub bare_book : BookState → BookState
bare_book book = record { batches = λ number. option_map bare_batch (book.batches number); struck = book.struck }
