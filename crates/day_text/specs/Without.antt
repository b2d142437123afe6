-- Calls without their ballots, as the lines of a history print them.
use Rattle.std.specs.Prelude.{List, [], map}
use Rattle.plain_ballots.specs.Ballots.{BallotList}
use Rattle.batch_core.specs.declared.change.Change.{Change}
use Rattle.batch_core.specs.declared.change.Change.TheVariants.{Enter, Correct, Withdraw}
use Rattle.batch_core.specs.declared.call.Call.{Call}
use Rattle.batch_core.specs.declared.call.Call.TheVariants.{Change as Changes, Freeze, Strike}
use Rattle.batch_core.specs.declared.entry.Entry.{Entry}

-- no ballots: the lines of calls print none
abbrev pub no_ballots : BallotList
no_ballots = record { candidates = 0; lines = [] }

abbrev pub change_without : Change → Change
change_without (Enter batch ballots) = Enter batch no_ballots
change_without (Correct batch revision ballots) = Correct batch revision no_ballots
change_without (Withdraw batch revision) = Withdraw batch revision

abbrev pub call_without : Call → Call
call_without (Changes change) = Changes (change_without change)
call_without Freeze = Freeze
call_without (Strike candidate) = Strike candidate

-- the same answered call without its ballots
abbrev pub entry_without : Entry → Entry
entry_without e = record e { call = call_without e.call }

-- answered calls without their ballots
abbrev pub without_ballots : List Entry → List Entry
without_ballots history = map entry_without history
