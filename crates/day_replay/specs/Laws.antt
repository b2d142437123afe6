-- Each text has one verdict.
use Rattle.std.specs.Prelude.{◌≡◌, ℕ, List}
use Rattle.day_reader.specs.declared.day.Day.{Day}
use Rattle.day_replay.specs.declared.day_verdict.DayVerdict.{DayVerdict}
use Rattle.day_replay.specs.Judged.{IsDayVerdict, IsTrialVerdict}

-- A text is that of a history of the day, or it has one line that is the first false one.
abbrev pub EachTextHasOneVerdict : Type 0
EachTextHasOneVerdict =
    (day : Day) (text : List ℕ) (one other : DayVerdict) → IsDayVerdict day text one → IsDayVerdict day text other → one ≡ other

-- A text is the summary of a made day, or it has one line that is the first false one.
abbrev pub EachSummaryHasOneVerdict : Type 0
EachSummaryHasOneVerdict =
    (number : ℕ) (text : List ℕ) (one other : DayVerdict) → IsTrialVerdict number text one
    → IsTrialVerdict number text other → one ≡ other
