-- What is expected among the teams, and what an item leads to there.
use Rattle.std.specs.Prelude.{ℕ, List, [], ◌∷◌, ◌++◌, length, Bool, not, ◌&&◌, ◌==◌, if◌then◌else◌, nat_lt, Ok, Err}
use Rattle.batch_core.specs.declared.limits.TheConstants.{MOST_TEAMS}
use Rattle.std.specs.List.{list_any}
use Rattle.batch_core.specs.declared.call.Call.{Call}
use Rattle.batch_core.specs.declared.call.Call.TheVariants as call
use Rattle.input_text.specs.declared.fault_kind.FaultKind.TheVariants.{WordExpected, BadTeam, TooManyFreezes}
use Rattle.input_text.specs.Token.{Item}
use Rattle.input_text.specs.Judged.{Judged, then_on, Progress, GoesOn, Ends, carried}
use Rattle.day_reader.specs.declared.keyword.Keyword.{Keyword}
use Rattle.day_reader.specs.declared.keyword.Keyword.TheVariants.{Team, Enter, Correct, Withdraw, Strike, Freeze, End}
use Rattle.day_reader.specs.declared.script.Script.{Script}
use Rattle.day_reader.specs.Keyword.{as_keyword}
use Rattle.day_reader.specs.Call.{freezes}
use Rattle.day_reader.specs.CallTable.{as_tested, is_between, InCall, EnterBatch, CorrectBatch, WithdrawBatch, StrikeCandidate, at_call}

-- what is expected after these teams
pub data InTeams : Type 0 where
  -- the number of the next team
  TeamNumber : (before : List Script) → InTeams
  -- a call of this team, the next team, or the end
  InTeam : (before : List Script) (script : Script) → InTeams
  WithinCall : (before : List Script) (script : Script) (expected : InCall) → InTeams

abbrev pub stands : List Script → ℕ → Bool
stands teams number = list_any (λ script. script.team == number) teams

-- a number from 1 to 16 that no team has
abbrev pub as_team : List Script → Item → Judged ℕ
as_team before = as_tested (λ n. is_between 1 MOST_TEAMS n && not (stands before n)) BadTeam

abbrev pub no_calls : ℕ → Script
no_calls number = record { team = number; calls = [] }

abbrev pub with_call : Script → Call → Script
with_call script call = record script { calls = script.calls ++ call ∷ [] }

abbrev pub and_team : List Script → Script → List Script
and_team before script = before ++ script ∷ []

-- a word within a team
abbrev pub in_team : List Script → Script → Keyword → Judged (Progress InTeams (List Script))
in_team before script Enter = Ok (GoesOn (WithinCall before script EnterBatch))
in_team before script Correct = Ok (GoesOn (WithinCall before script CorrectBatch))
in_team before script Withdraw = Ok (GoesOn (WithinCall before script WithdrawBatch))
in_team before script Strike = Ok (GoesOn (WithinCall before script StrikeCandidate))
in_team before script Freeze = if nat_lt (freezes (and_team before script)) 8 then Ok (GoesOn (InTeam before (with_call script call.Freeze))) else Err TooManyFreezes
in_team before script Team = if nat_lt (length (and_team before script)) MOST_TEAMS then Ok (GoesOn (TeamNumber (and_team before script))) else Err BadTeam
in_team before script End = Ok (Ends (and_team before script))
in_team before script keyword = Err WordExpected

unfoldable pub at_teams : ℕ → InTeams → Item → Judged (Progress InTeams (List Script))
at_teams candidates (TeamNumber before) item = then_on (as_team before item) (λ number. Ok (GoesOn (InTeam before (no_calls number))))
at_teams candidates (InTeam before script) item = then_on (as_keyword item) (in_team before script)
at_teams candidates (WithinCall before script expected) item = carried (λ more. WithinCall before script more) (λ call. InTeam before (with_call script call)) (at_call candidates expected item)
