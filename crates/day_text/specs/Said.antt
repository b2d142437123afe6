-- What the line of an answered call may say. Whether the reply is that to the call is not asked.
use Rattle.std.specs.Prelude.{◌≡◌, ◌≤◌, ⊤}
use Rattle.batch_core.specs.declared.limits.TheConstants.{MOST_TEAMS}
use Rattle.candidate_roll.specs.Roll.{IsFew}
use Rattle.batch_core.specs.declared.change.Change.{Change}
use Rattle.batch_core.specs.declared.change.Change.TheVariants.{Enter, Correct, Withdraw}
use Rattle.batch_core.specs.declared.call.Call.{Call}
use Rattle.batch_core.specs.declared.call.Call.TheVariants.{Change as Changes, Freeze, Strike}
use Rattle.batch_core.specs.declared.reply.Reply.{Reply}
use Rattle.batch_core.specs.declared.reply.Reply.TheVariants.{Corrected, Withdrawn, Exists, Gone, Stale}
use Rattle.batch_core.specs.declared.entry.Entry.{Entry}
use Rattle.batch_core.specs.Lawful.{IsInRange}
use Rattle.day_text.specs.Without.{no_ballots}

-- a change as its line says it: batches and revisions are numbered from 1 to 9,999, and no ballots are printed
abbrev pub IsSaidChange : Change → Type 0
IsSaidChange (Enter batch ballots) = IsInRange batch × (ballots ≡ no_ballots)
IsSaidChange (Correct batch revision ballots) = IsInRange batch × IsInRange revision × (ballots ≡ no_ballots)
IsSaidChange (Withdraw batch revision) = IsInRange batch × IsInRange revision

-- a call as its line says it
abbrev pub IsSaidCall : Call → Type 0
IsSaidCall (Changes change) = IsSaidChange change
IsSaidCall Freeze = ⊤
IsSaidCall (Strike candidate) = IsFew candidate

-- a reply whose revision, if it names one, is in range
abbrev pub IsSaidReply : Reply → Type 0
IsSaidReply (Corrected revision) = IsInRange revision
IsSaidReply (Withdrawn revision) = IsInRange revision
IsSaidReply (Exists revision) = IsInRange revision
IsSaidReply (Gone revision) = IsInRange revision
IsSaidReply (Stale revision) = IsInRange revision
IsSaidReply reply = ⊤

-- an answered call as its line says it: the clerk is 0, and teams are numbered from 1 to 16
pub record IsSaidEntry (e : Entry) : Type 0 where
  pub caller : e.caller ≤ MOST_TEAMS
  pub call : IsSaidCall e.call
  pub reply : IsSaidReply e.reply
