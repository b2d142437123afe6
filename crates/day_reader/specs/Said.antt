-- What a day file says, or why it is refused.
use Rattle.std.specs.Prelude.{◌≡◌, ◌<◌, ◌≤◌, ℕ, List, true, Result, Ok, Err, IsOk, ◌↔◌, All, AllPairs}
use Rattle.batch_core.specs.declared.limits.TheConstants.{MOST_TEAMS}
use Rattle.batch_core.specs.declared.call.Call.{Call}
use Rattle.batch_core.specs.declared.call.Call.TheVariants.{Change, Freeze, Strike}
use Rattle.batch_core.specs.Lawful.{IsLawful}
use Rattle.input_text.specs.declared.input_fault.InputFault.{InputFault}
use Rattle.input_text.specs.Token.{Item, Scan}
use Rattle.input_text.specs.Scan.{scan}
use Rattle.input_text.specs.Judged.{after, outcome, Progress, GoesOn, ended}
use Rattle.blt_reader.specs.BltTable.{Candidates}
use Rattle.input_text.specs.Refusal.{IsOpen, IsAccepted, IsRefusal}
use Rattle.day_reader.specs.declared.script.Script.{Script}
use Rattle.day_reader.specs.declared.day.Day.{Day}
use Rattle.day_reader.specs.Call.{freezes}
use Rattle.day_reader.specs.Day.{IsDay}
use Rattle.day_reader.specs.DayTable.{Expected, InRoll, at_file_token}
use Rattle.day_reader.specs.Front.{IsFileFront}

-- the beginning of a file
abbrev pub start : Progress Expected Day
start = GoesOn (InRoll Candidates)

-- what a text says, read by the table
abbrev pub said_by : Scan → Result Day InputFault
said_by text = outcome at_file_token ended start text.tokens text.ending

abbrev pub reading : List ℕ → Result Day InputFault
reading bytes = said_by (scan bytes true)

abbrev pub IsDayRefusal : Scan → InputFault → Type 0
IsDayRefusal = IsRefusal IsDay at_file_token start

-- ---- laws

-- A list of tokens is the file of at most one day.
abbrev pub HasOneDay : Type 0
HasOneDay = (items : List Item) (one other : Day) → IsDay items one → IsDay items other → one ≡ other

-- A list is open exactly where the table refuses none of its tokens.
abbrev pub FollowsOpenLists : Type 0
FollowsOpenLists = (items : List Item) → IsOk (after at_file_token start items) ↔ IsOpen IsDay items

-- The table expects exactly what the list before it expects.
abbrev pub ExpectsRightly : Type 0
ExpectsRightly = (items : List Item) (expected : Progress Expected Day) → (after at_file_token start items ≡ Ok expected) ↔ IsFileFront expected items

-- A text says a day exactly where its tokens are a file of it, without a fault at its end.
abbrev pub AcceptsDays : Type 0
AcceptsDays = (text : Scan) (day : Day) → (said_by text ≡ Ok day) ↔ IsAccepted IsDay text day

-- A text is refused exactly by the rule.
abbrev pub RefusesByTheRule : Type 0
RefusesByTheRule = (text : Scan) (fault : InputFault) → (said_by text ≡ Err fault) ↔ IsDayRefusal text fault

-- There is no refusal exactly where there is a day.
abbrev pub RefusesAllElse : Type 0
RefusesAllElse = (text : Scan) → ((fault : InputFault) → ¬ IsDayRefusal text fault) ↔ ((day : Day) × IsAccepted IsDay text day)

-- ---- what the layer above uses

-- a call that an office of so many candidates can answer
abbrev pub IsAnswerable : ℕ → Call → Type 0
IsAnswerable candidates (Change change) = IsLawful candidates change
IsAnswerable candidates Freeze = Unit {0}
IsAnswerable candidates (Strike candidate) = (1 ≤ candidate) × (candidate ≤ candidates)

-- teams numbered from 1 to 16 by rising number, with answerable calls and at most eight freezes
pub record AreScripts (candidates : ℕ) (scripts : List Script) : Type 0 where
  pub numbers : All (λ script. (1 ≤ script.team) × (script.team ≤ MOST_TEAMS)) scripts
  pub rising : AllPairs (λ one other. one.team < other.team) scripts
  pub calls : All (λ script. All (IsAnswerable candidates) script.calls) scripts
  pub few_freezes : freezes scripts ≤ 8
