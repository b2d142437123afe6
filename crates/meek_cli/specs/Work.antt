-- The work that words ask for. How many shards and workers it is shared among makes no difference to what is owed.
use Rattle.std.specs.Prelude.{ℕ, ◌≤◌, List, Option, Some, None}
use Rattle.tool_edge.specs.declared.opening.TheConstants.{DAY_LIMIT, FILE_LIMIT}
use Rattle.meek_trial.specs.declared.day.TheConstants.{MOST_TRIAL}
use Rattle.meek_words.specs.Forms.{HasForm}
use Rattle.meek_words.specs.declared.command.Command.TheVariants.{Count as CountWords, Day as DayWords, Trial as TrialWords}
use Rattle.meek_cli.specs.declared.work.Work.{Work}
use Rattle.meek_cli.specs.declared.work.Work.TheVariants.{Count, Day, Trial}

-- for a count by these lots, a day, or the trial of this number
abbrev pub AsksFor : List (List ℕ) → Work → Type 0
AsksFor words (Count lots) = (shards : ℕ) × (workers : ℕ) × HasForm words (CountWords lots shards workers)
AsksFor words Day = (shards : ℕ) × (workers : ℕ) × HasForm words (DayWords shards workers)
AsksFor words (Trial number) = (shards : ℕ) × (workers : ℕ) × HasForm words (TrialWords number shards workers)

-- the greatest length of its input, in bytes; a trial reads none
abbrev pub limit_of : Work → Option ℕ
limit_of (Count lots) = Some FILE_LIMIT
limit_of Day = Some DAY_LIMIT
limit_of (Trial number) = None

-- a trial's number is from 1 to 1,000
abbrev pub IsNumbered : Work → Type 0
IsNumbered (Trial number) = (1 ≤ number) × (number ≤ MOST_TRIAL)
IsNumbered other = Unit {0}
