-- What reading functions of day files give.
use Rattle.std.specs.Prelude.{◌≡◌, ℕ, List, [], map, length, Bool, true, false, Option, Some, Result, Ok, Err}
use Rattle.candidate_roll.specs.Roll.{RollList}
use Rattle.batch_core.specs.declared.call.Call.{Call}
use Rattle.input_text.specs.declared.fault_kind.FaultKind.TheVariants.{WordExpected}
use Rattle.input_text.specs.declared.input_fault.InputFault.{InputFault}
use Rattle.input_text.specs.declared.input_stop.InputStop.{InputStop}
use Rattle.input_text.specs.declared.input_stop.InputStop.TheVariants as stop
use Rattle.input_text.specs.Token.{Item, Scan, with_front}
use Rattle.input_text.specs.Judged.{then_on, outcome, Ends, ended, Stopped, reads}
use Rattle.day_reader.specs.declared.keyword.Keyword.{Keyword}
use Rattle.day_reader.specs.declared.keyword.Keyword.TheVariants as key
use Rattle.day_reader.specs.declared.scale.Scale as code
use Rattle.day_reader.specs.declared.script.Script.{Script}
use Rattle.day_reader.specs.declared.day.Day.{Day}
use Rattle.day_reader.specs.Keyword.{word, as_keyword}
use Rattle.day_reader.specs.Call.{freezes}
use Rattle.day_reader.specs.Day.{Scale, scale_of}
use Rattle.day_reader.specs.TeamTable.{TeamNumber, InTeam, and_team, with_call, at_teams}
use Rattle.day_reader.specs.DayTable.{Head, BehindTitle, Lot, BehindLots, Places, Teams, day_of, behind_title, at_token, at_file_token}

-- What is said of a text is said from where this was found, or is this refusal.
abbrev pub Leads : {A V : Type 0} → Result (V × Scan) Stopped → Result A InputFault → (A → Result (V × Scan) Stopped) → Scan → Type 0
Leads said (Ok found) onward rest = said ≡ onward found
Leads said (Err fault) onward rest = said ≡ Err (record { fault = fault; rest = rest })

-- The same, but that nothing is said where memory is wanted.
abbrev pub LeadsOrWants : {A V : Type 0} → Result (V × Scan) Stopped → Result A InputStop → (A → Result (V × Scan) Stopped) → Scan → Type 0
LeadsOrWants said (Ok found) onward rest = said ≡ onward found
LeadsOrWants said (Err (stop.Fault fault)) onward rest = said ≡ Err (record { fault = fault; rest = rest })
LeadsOrWants said (Err stop.NoMemory) onward rest = Unit {0}

-- ---- the head

-- the word `lots`, or any other token in its place
abbrev pub IsLotsWord : Item → ℕ → Result (Unit {0}) InputFault → Type 0
IsLotsWord item at (Ok done) = item ≡ word key.Lots
IsLotsWord item at (Err fault) = (fault ≡ record { kind = WordExpected; at = at }) × ((roll : RollList) → then_on (as_keyword item) (behind_title roll) ≡ Err WordExpected)

-- the strings after the title, up to the word `lots`
abbrev pub ReadsToLots : Scan → Result (Unit {0}) InputFault → Scan → Type 0
ReadsToLots old result new = (roll : RollList) → Leads (reads at_token (BehindTitle roll) old) result (λ _. reads at_token (Lot roll []) new) new

-- the strings after the title, and the lots of so many candidates
abbrev pub ReadsOrder : ℕ → Scan → Result (List ℕ) InputStop → Scan → Type 0
ReadsOrder candidates old result new = (roll : RollList) → length roll.names ≡ candidates
    → LeadsOrWants (reads at_token (BehindTitle roll) old) result (λ lots. reads at_token (BehindLots roll lots) new) new

-- a team after the head, or the end
abbrev pub team_or_end : Head → Bool → Scan → Result (Day × Scan) Stopped
team_or_end head true text = reads at_token (Teams head (TeamNumber [])) text
team_or_end head false text = Ok (day_of head [], text)

-- the word of a team, or the end
abbrev pub BeginsTeam : Keyword → ℕ → Result Bool InputFault → Type 0
BeginsTeam key.Team at result = result ≡ Ok true
BeginsTeam key.End at result = result ≡ Ok false
BeginsTeam keyword at result = result ≡ Err (record { kind = WordExpected; at = at })

-- the places and omega after the word `places`
pub record IsPlaced (old : Scan) (read : code.Scale) (new : Scan) : Type 0 where
  pub same : (roll : RollList) (lots : List ℕ) → reads at_token (Places roll lots) old
      ≡ team_or_end (record { roll = roll; lots = lots; scale = Some (record { places = read.places; omega = read.omega }) }) read.team_follows new

abbrev pub ReadsPlaces : Scan → Result code.Scale InputFault → Scan → Type 0
ReadsPlaces old (Ok read) new = IsPlaced old read new
ReadsPlaces old (Err fault) new = (roll : RollList) (lots : List ℕ) → reads at_token (Places roll lots) old ≡ Err (record { fault = fault; rest = new })

-- the places and omega were read, or were left out
pub record IsScaled (old : Scan) (read : code.Scale) (new : Scan) : Type 0 where
  pub scale : Option Scale
  pub places : read.places ≡ (scale_of scale).places
  pub omega : read.omega ≡ (scale_of scale).omega
  pub same : (roll : RollList) (lots : List ℕ) → reads at_token (BehindLots roll lots) old ≡ team_or_end (record { roll = roll; lots = lots; scale = scale }) read.team_follows new

abbrev pub ReadsScale : Scan → Result code.Scale InputFault → Scan → Type 0
ReadsScale old (Ok read) new = IsScaled old read new
ReadsScale old (Err fault) new = (roll : RollList) (lots : List ℕ) → reads at_token (BehindLots roll lots) old ≡ Err (record { fault = fault; rest = new })

-- ---- the teams

-- the next team after these teams, or the end
abbrev pub next_team : ℕ → List Script → Bool → Scan → Result (List Script × Scan) Stopped
next_team candidates teams true text = reads (at_teams candidates) (TeamNumber teams) text
next_team candidates teams false text = Ok (teams, text)

abbrev pub team_numbers : List Script → List ℕ
team_numbers teams = map (λ script. script.team) teams

-- a call after its word, in whichever team
abbrev pub ReadsCall : ℕ → ℕ → Keyword → ℕ → Scan → Result Call InputStop → Scan → Type 0
ReadsCall candidates count keyword at old result new = (before : List Script) (script : Script) → freezes (and_team before script) ≡ count
    → LeadsOrWants (reads (at_teams candidates) (InTeam before script) (with_front (record { at = at; item = word keyword }) old)) result (λ call. reads (at_teams candidates) (InTeam before (with_call script call)) new) new

-- the word ends a team
abbrev pub EndsTeam : Keyword → Type 0
EndsTeam key.Team = Unit {0}
EndsTeam key.End = Unit {0}
EndsTeam keyword = ⊥

abbrev pub with_scripts : Head → List Script → Day
with_scripts head scripts = record {
  roll = head.roll;
  lots = head.lots;
  places = (scale_of head.scale).places;
  omega = (scale_of head.scale).omega;
  scripts = scripts;
}

-- all teams after a head, by rising number
abbrev pub ReadsScripts : ℕ → Bool → Scan → Result (List Script) InputStop → Scan → Type 0
ReadsScripts candidates team_follows old result new = (head : Head) → length head.roll.names ≡ candidates
    → LeadsOrWants (team_or_end head team_follows old) result (λ scripts. Ok (with_scripts head scripts, new)) new

-- the places, omega and scripts of a day, whatever its roll and lots
abbrev pub ReadsBehindLots : ℕ → Scan → Result (code.Scale × List Script) InputStop → Scan → Type 0
ReadsBehindLots candidates old result new = (roll : RollList) (lots : List ℕ) → length roll.names ≡ candidates
    → LeadsOrWants (reads at_token (BehindLots roll lots) old) result (λ found. Ok (record { roll = roll; lots = lots; places = found.0.places; omega = found.0.omega; scripts = found.1 }, new)) new

-- ---- the whole file

-- nothing is after the end
abbrev pub IsAtEnd : Scan → Result (Unit {0}) InputFault → Type 0
IsAtEnd text (Ok done) = (day : Day) → outcome at_file_token ended (Ends day) text.tokens text.ending ≡ Ok day
IsAtEnd text (Err fault) = (day : Day) → outcome at_file_token ended (Ends day) text.tokens text.ending ≡ Err fault

-- the day is the one that was said, and the fault the refusal
abbrev pub SaysDay : Result Day InputFault → Result Day InputStop → Type 0
SaysDay said (Ok day) = said ≡ Ok day
SaysDay said (Err (stop.Fault fault)) = said ≡ Err fault
SaysDay said (Err stop.NoMemory) = Unit {0}
