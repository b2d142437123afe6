-- What holds of sights, versions and histories for ever.
use Rattle.std.specs.Prelude.{◌≡◌, ℕ, ◌-◌, ◌≤◌, List, ◌++◌, length, slice_get, Some}
use Rattle.turn_lock.specs.Entries.{Begins}
use Rattle.batch_core.specs.declared.reply.Reply.{Reply}
use Rattle.batch_core.specs.declared.entry.Entry.{Entry}
use Rattle.batch_core.specs.Histories.{IsLegal}
use Rattle.call_register.specs.Weaving.{freeze_entry}
use Rattle.call_register.specs.Walk.{NoneBy}
use Rattle.shard_office.specs.Names.{strike_answer}
use Rattle.shard_office.specs.Office.{OfficeState}
use Rattle.shard_office.specs.Sight.{Sight, GoesOn, IsWhole, IsChange, IsStrike, history_of}
use Rattle.shard_office.specs.Passes.{PassState}
use Rattle.frozen_version.specs.Versions.{VersionState, StandsIn}
use Rattle.shard_office.specs.Versions.{IsVersionOf, IsFreeze}
use Rattle.shard_office.specs.Clerk.{ClerkState, IsTaken}
use Rattle.shard_office.specs.Closing.{sight_in, FitsHistory, IsClosed}

-- what goes on goes on further
abbrev pub SightsGoOn : Type 0
SightsGoOn = (before now later : Sight) → GoesOn before now → GoesOn now later → GoesOn before later

-- Where each mark that was seen has its entry, the history that is seen later begins with the one that was seen before.
-- So of two freezes of one caller the earlier one's history begins the later one's.
abbrev pub HistoriesGoOn : Type 0
HistoriesGoOn = (before now : Sight) → IsWhole before → GoesOn before now → Begins (history_of before) (history_of now)

-- a legal history is the one that its own sight shows
abbrev pub SightsShowHistories : Type 0
SightsShowHistories =
    (shards : ℕ) (history : List Entry) → 1 ≤ shards → IsLegal history
    → IsWhole (sight_in shards history) × (history_of (sight_in shards history) ≡ history)

-- where the sight of one legal history begins that of another, the history begins the other
abbrev pub HistoriesBeginAlike : Type 0
HistoriesBeginAlike =
    (shards : ℕ) (history longer : List Entry) → 1 ≤ shards → IsLegal history → IsLegal longer
    → GoesOn (sight_in shards history) (sight_in shards longer) → Begins history longer

-- a change is in every history at the place that its mark has among the marks
abbrev pub ChangesStandAtTheirMarks : Type 0
ChangesStandAtTheirMarks =
    (shards s : ℕ) (e : Entry) (before now : Sight) (history : List Entry) → 1 ≤ shards → IsLegal history
    → IsChange s e before now → GoesOn now (sight_in shards history) → slice_get history (length now.marks - 1) ≡ Some e

abbrev pub StrikesStandAtTheirMarks : Type 0
StrikesStandAtTheirMarks =
    (shards caller candidate : ℕ) (answer : Reply) (before now : Sight) (history : List Entry) → 1 ≤ shards → IsLegal history
    → IsStrike caller candidate answer before now → GoesOn now (sight_in shards history)
    → slice_get history (length now.marks - 1) ≡ Some (strike_answer caller candidate answer)

abbrev pub FreezesStandAtTheirMarks : Type 0
FreezesStandAtTheirMarks =
    (shards caller : ℕ) (version : VersionState) (before now : Sight) (history : List Entry) → 1 ≤ shards → IsLegal history
    → IsFreeze shards caller version before now → GoesOn now (sight_in shards history)
    → slice_get history (version.at - 1) ≡ Some (freeze_entry caller)

-- a version of what was seen is one of all that is seen later
abbrev pub VersionsStay : Type 0
VersionsStay = (version : VersionState) (before now : Sight) → IsVersionOf version before → GoesOn before now → IsVersionOf version now

-- a version of what a pass has seen is one of every history that the pass fits
abbrev pub VersionsAreOfHistories : Type 0
VersionsAreOfHistories =
    (version : VersionState) (pass : PassState) (history : List Entry) → IsVersionOf version pass.sight → FitsHistory pass history
    → IsVersionOf version (sight_in pass.office.shards history)

abbrev pub VersionsStandInHistories : Type 0
VersionsStandInHistories =
    (shards : ℕ) (version : VersionState) (history : List Entry) → 1 ≤ shards → IsLegal history
    → IsVersionOf version (sight_in shards history) → StandsIn version history

-- a pass that was taken in has no call after what the clerk has seen
abbrev pub NobodyCallsLater : Type 0
NobodyCallsLater =
    (o : OfficeState) (now : Sight) (pass : PassState) (more history : List Entry) → IsTaken o now pass → FitsHistory pass history
    → history ≡ history_of now ++ more → NoneBy pass.caller more

-- A clerk that has seen an entry for each mark, as after its freeze, and all that the passes taken in had seen, has seen
-- the whole history of the office that it closes: nobody called later.
abbrev pub TheClerkHasSeenAll : Type 0
TheClerkHasSeenAll =
    (clerk : ClerkState) (history : List Entry) → 1 ≤ clerk.desk.office.shards → clerk.desk.caller ≡ 0 → IsClosed clerk history
    → ((k : ℕ) (pass : PassState) → slice_get clerk.taken k ≡ Some pass → IsTaken clerk.desk.office clerk.desk.sight pass)
    → IsWhole clerk.desk.sight → history ≡ history_of clerk.desk.sight
