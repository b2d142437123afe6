-- The changes of a day's scripts, and their history.
use Rattle.std.specs.Prelude.{◌≡◌, ℕ, List, [], ◌∷◌, map}
use Rattle.std.specs.List.{flat_map}
use Rattle.batch_core.specs.declared.call.Call.{Call}
use Rattle.batch_core.specs.declared.call.Call.TheVariants.{Change, Freeze, Strike}
use Rattle.batch_core.specs.declared.entry.Entry.{Entry}
use Rattle.batch_core.specs.Histories.{IsLegal}
use Rattle.day_reader.specs.declared.script.Script.{Script}

-- a team's call, if it is a change
abbrev pub change_of : ℕ → Call → List (ℕ × Call)
change_of team (Change change) = (team, Change change) ∷ []
change_of team Freeze = []
change_of team (Strike candidate) = []

abbrev pub changes_by : ℕ → List Call → List (ℕ × Call)
changes_by team calls = flat_map (change_of team) calls

-- the changes of the teams, one team after the other
abbrev pub changes_of : List Script → List (ℕ × Call)
changes_of scripts = flat_map (λ script. changes_by script.team script.calls) scripts

-- who called, and what
abbrev pub asked : Entry → ℕ × Call
asked e = (e.caller, e.call)

-- the legal history of just these changes, in their order
pub record IsHistoryOf (scripts : List Script) (history : List Entry) : Type 0 where
  pub legal : IsLegal history
  pub calls : map asked history ≡ changes_of scripts
