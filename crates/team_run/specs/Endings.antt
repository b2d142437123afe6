-- How a day ends: what its office has answered in all, and the versions of its freezes.
use Rattle.std.specs.Prelude.{◌≡◌, ℕ, ◌≤◌, List, [], ◌∷◌, ◌++◌, map, filter, slice_get, Some, All}
use Rattle.std.specs.List.{enumerate_from}
use Rattle.batch_core.specs.declared.entry.Entry.{Entry}
use Rattle.batch_core.specs.Histories.{IsLegal, own_calls}
use Rattle.call_register.specs.Weaving.{freeze_entry}
use Rattle.day_reader.specs.declared.script.Script.{Script}
use Rattle.day_reader.specs.Call.{is_freeze}
use Rattle.shard_office.specs.Sight.{Sight}
use Rattle.shard_office.specs.Passes.{PassState, own}
use Rattle.shard_office.specs.Clerk.{ClerkState, IsTaken}
use Rattle.frozen_version.specs.Versions.{VersionState, StandsIn}
use Rattle.shard_office.specs.Versions.{IsFreeze}
use Rattle.shard_office.specs.Closing.{IsClosed}
use Rattle.day_lines.specs.DayHistory.{calls_of, calls_in}
use Rattle.team_run.specs.Teams.{script_of, RisesFrom, AreVersionsOf}

-- the places of the freezes, where the first entry has this place
abbrev pub freezes_from : ℕ → List Entry → List ℕ
freezes_from place history = map (λ e. e.0) (filter (λ e. is_freeze e.1.call) (enumerate_from place history))

-- The history of these scripts: each team's calls are its whole script, nobody else has called but the clerk, whose
-- freeze is the last call. The versions are those of all freezes in their order, each with what is there.
pub record HasEnded (scripts : List Script) (versions : List VersionState) (history : List Entry) : Type 0 where
  pub legal : IsLegal history
  pub before : List Entry
  pub last : history ≡ before ++ freeze_entry 0 ∷ []
  pub no_other : own_calls 0 before ≡ []
  pub whole : (team : ℕ) → 1 ≤ team → calls_of (own_calls team history) ≡ calls_in scripts team
  pub places : map (λ v. v.at) versions ≡ freezes_from 1 history
  pub stand : All (λ v. StandsIn v history) versions

-- A day has ended where the clerk took in the passes that made these scripts, froze, and then closed the office.
abbrev pub DaysEnd : Type 0
DaysEnd =
    (scripts : List Script) (versions : List VersionState) (last : VersionState) (clerk : ClerkState) (before : Sight) (history : List Entry)
    → 1 ≤ clerk.desk.office.shards → clerk.desk.caller ≡ 0 → RisesFrom 0 scripts
    → map script_of clerk.taken ≡ scripts → AreVersionsOf clerk.taken versions
    → ((k : ℕ) (pass : PassState) → slice_get clerk.taken k ≡ Some pass → IsTaken clerk.desk.office clerk.desk.sight pass)
    → IsFreeze clerk.desk.office.shards 0 last before clerk.desk.sight → own clerk.desk ≡ freeze_entry 0 ∷ []
    → IsClosed clerk history → HasEnded scripts (versions ++ last ∷ []) history
