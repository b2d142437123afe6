-- What holds for every order of calls, also where marks are seen whose entries aren't, or the other way round.
use Rattle.std.specs.Prelude.{◌≡◌, ◌⊎◌, ℕ, ◌<◌, ◌≤◌, List, [], ◌∷◌, ◌++◌, All, Some, drop, length, slice_get, take}
use Rattle.std.specs.List.{list_any}
use Rattle.plain_ballots.specs.declared.limits.TheConstants.{MOST_CANDIDATES}
use Rattle.batch_core.specs.declared.entry.Entry.{Entry}
use Rattle.batch_core.specs.Book.{is_struck}
use Rattle.batch_core.specs.Histories.{IsLegal, own_calls}
use Rattle.batch_core.specs.Lawful.{AreLawful}
use Rattle.call_register.specs.declared.mark.Mark.{Mark}
use Rattle.call_register.specs.declared.mark.Mark.TheVariants.{Shard, Freeze, Strike}
use Rattle.call_register.specs.Marks.{MayMark, marks_of, strikes, struck_from, struck_by}
use Rattle.call_register.specs.Weaving.{Lists, freeze_entry, strike_entry, weave_from, weave, HaveEntries, MatchEntries, marks_in, part, parts}
use Rattle.call_register.specs.Woven.{AreOfShards, IsWoven}
use Rattle.call_register.specs.Walk.{calls_seen, left, NoneBy, NoMarkBy, followed, with_one}

-- whatever the order of the marks, shards that are legal by themselves are legal together
abbrev pub EveryOrderIsLegal : Type 0
EveryOrderIsLegal =
    (shards : ℕ) (marks : List Mark) (lists : Lists) → AreOfShards shards lists → IsLegal (weave marks lists)

-- whatever the order of the marks, lawful lists are lawful together
abbrev pub EveryOrderIsLawful : Type 0
EveryOrderIsLawful =
    (shards candidates : ℕ) (marks : List Mark) (lists : Lists) → candidates ≤ MOST_CANDIDATES → All (λ m. MayMark shards candidates m) marks
    → ((s : ℕ) → AreLawful candidates (lists s)) → AreLawful candidates (weave marks lists)

-- where each mark has its entry and each entry its mark, the law of weaving holds
abbrev pub EveryFittingOrderIsWoven : Type 0
EveryFittingOrderIsWoven =
    (shards : ℕ) (marks : List Mark) (lists : Lists) → AreOfShards shards lists → MatchEntries marks lists
    → IsWoven shards marks lists (weave marks lists)

-- every legal history is woven of its own marks and parts
abbrev pub EveryHistoryIsWoven : Type 0
EveryHistoryIsWoven =
    (shards : ℕ) (history : List Entry) → IsLegal history → weave (marks_in shards history) (parts shards history) ≡ history

-- a history has as many marks of a shard as its part has entries
abbrev pub PartsHaveTheirMarks : Type 0
PartsHaveTheirMarks = (shards s : ℕ) (history : List Entry) → marks_of s (marks_in shards history) ≡ length (part shards s history)

-- a number that is no shard's has no part
abbrev pub NoPartOutside : Type 0
NoPartOutside =
    (shards s : ℕ) (history : List Entry) → 1 ≤ shards → (s ≡ 0) ⊎ (shards < s) → part shards s history ≡ []

-- a shard's part is as much of its list as the shard has marks
abbrev pub PartsAreFronts : Type 0
PartsAreFronts =
    (shards s : ℕ) (marks : List Mark) (lists : Lists) → AreOfShards shards lists
    → part shards s (weave marks lists) ≡ take (marks_of s marks) (lists s)

-- who is struck is struck by one of the marks
abbrev pub StruckByAMark : Type 0
StruckByAMark =
    (marks : List Mark) (candidate : ℕ) → is_struck (struck_by marks) candidate ≡ list_any (strikes candidate) marks

-- who is struck by marks that go on is who was struck before, and who is struck by the others
abbrev pub StrikesGoOn : Type 0
StrikesGoOn = (marks after : List Mark) → struck_by (marks ++ after) ≡ struck_from (struck_by marks) after

-- marks go on where the ones before them stopped
abbrev pub MarksGoOn : Type 0
MarksGoOn =
    (marks after : List Mark) (lists : Lists)
    → weave (marks ++ after) lists ≡ weave marks lists ++ weave_from (struck_by marks) after (left marks lists)

-- entries that no mark reaches change nothing
abbrev pub EntriesAheadChangeNothing : Type 0
EntriesAheadChangeNothing =
    (marks : List Mark) (lists more : Lists) → HaveEntries marks lists → weave marks (followed lists more) ≡ weave marks lists

-- a longer sight begins with the history of the shorter one
abbrev pub LongerSightsBeginAlike : Type 0
LongerSightsBeginAlike =
    (n : ℕ) (marks after : List Mark) (lists more : Lists) → n ≤ length marks → HaveEntries (take n marks) lists
    → take n (weave (marks ++ after) (followed lists more)) ≡ weave (take n marks) lists

-- where the marks of one legal history begin those of another, and its parts the other's, it begins the other
abbrev pub HistoriesBeginAlike : Type 0
HistoriesBeginAlike =
    (shards : ℕ) (history longer : List Entry) → 1 ≤ shards → IsLegal history → IsLegal longer
    → (after : List Mark) × (marks_in shards longer ≡ marks_in shards history ++ after)
    → ((s : ℕ) → 1 ≤ s → s ≤ shards → (more : List Entry) × (part shards s longer ≡ part shards s history ++ more))
    → (rest : List Entry) × (longer ≡ history ++ rest)

-- what the marks leave of a list lies behind as many entries as its shard has marks
abbrev pub LeftBehindTheMarks : Type 0
LeftBehindTheMarks = (s : ℕ) (marks : List Mark) (lists : Lists) → left marks lists s ≡ drop (marks_of s marks) (lists s)

-- a call at a shard whose entries all have their marks is the last one woven
abbrev pub ChangeIsTheLast : Type 0
ChangeIsTheLast =
    (s : ℕ) (marks : List Mark) (lists : Lists) (e : Entry) → length (lists s) ≡ marks_of s marks
    → weave (marks ++ Shard s ∷ []) (with_one lists s e) ≡ weave marks lists ++ e ∷ []

abbrev pub FreezeIsTheLast : Type 0
FreezeIsTheLast =
    (caller : ℕ) (marks : List Mark) (lists : Lists)
    → weave (marks ++ Freeze caller ∷ []) lists ≡ weave marks lists ++ freeze_entry caller ∷ []

abbrev pub StrikeIsTheLast : Type 0
StrikeIsTheLast =
    (caller candidate : ℕ) (marks : List Mark) (lists : Lists)
    → weave (marks ++ Strike caller candidate ∷ []) lists ≡ weave marks lists ++ strike_entry (struck_by marks) caller candidate ∷ []

-- where each mark has its entry, there are as many calls as marks
abbrev pub AsManyAsMarks : Type 0
AsManyAsMarks = (marks : List Mark) (lists : Lists) → HaveEntries marks lists → length (weave marks lists) ≡ length marks

-- at the place of a shard's mark stands the entry with as many before it in its list as the shard has marks before this one
abbrev pub ChangeAtItsMark : Type 0
ChangeAtItsMark =
    (s : ℕ) (before after : List Mark) (lists : Lists) → HaveEntries (before ++ Shard s ∷ after) lists
    → slice_get (weave (before ++ Shard s ∷ after) lists) (length before) ≡ slice_get (lists s) (marks_of s before)

abbrev pub FreezeAtItsMark : Type 0
FreezeAtItsMark =
    (caller : ℕ) (before after : List Mark) (lists : Lists) → HaveEntries before lists
    → slice_get (weave (before ++ Freeze caller ∷ after) lists) (length before) ≡ Some (freeze_entry caller)

abbrev pub StrikeAtItsMark : Type 0
StrikeAtItsMark =
    (caller candidate : ℕ) (before after : List Mark) (lists : Lists) → HaveEntries before lists
    → slice_get (weave (before ++ Strike caller candidate ∷ after) lists) (length before)
    ≡ Some (strike_entry (struck_by before) caller candidate)

-- a caller's last call is the last of its own
abbrev pub OwnCallIsTheLast : Type 0
OwnCallIsTheLast =
    (p : ℕ) (history : List Entry) (e : Entry) → e.caller ≡ p
    → own_calls p (history ++ e ∷ []) ≡ own_calls p history ++ e ∷ []

-- a caller whose entries all have their marks keeps its calls while marks and entries of others follow
abbrev pub OthersLeaveOwnCalls : Type 0
OthersLeaveOwnCalls =
    (p : ℕ) (marks after : List Mark) (lists more : Lists) → NoMarkBy p after
    → ((s : ℕ) → NoneBy p (left marks lists s)) → ((s : ℕ) → NoneBy p (more s))
    → calls_seen p (marks ++ after) (followed lists more) ≡ calls_seen p marks lists

-- what follows the entries that a caller has seen is of others, where it has seen all of its own
abbrev pub OthersFollow : Type 0
OthersFollow =
    (p : ℕ) (seen more mine : List Entry) → own_calls p seen ≡ mine → own_calls p (seen ++ more) ≡ mine → NoneBy p more

-- who sees more never sees fewer of a caller's calls
abbrev pub NeverFewerCalls : Type 0
NeverFewerCalls =
    (p : ℕ) (marks after : List Mark) (lists more : Lists)
    → length (calls_seen p marks lists) ≤ length (calls_seen p (marks ++ after) (followed lists more))
