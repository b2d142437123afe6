-- Teams at an office, and what has come of them.
use Rattle.std.specs.Prelude.{◌≡◌, ℕ, ◌-◌, ◌<◌, ⊤, List, [], ◌∷◌, ◌++◌, length, map, slice_get, Some, All, AllPairs, Any}
use Rattle.batch_core.specs.declared.call.Call.{Call}
use Rattle.call_register.specs.declared.mark.Mark.TheVariants.{Freeze}
use Rattle.day_reader.specs.declared.script.Script.{Script}
use Rattle.day_reader.specs.Call.{freezes}
use Rattle.day_reader.specs.Said.{IsAnswerable, AreScripts}
use Rattle.day_lines.specs.DayHistory.{calls_of}
use Rattle.shard_office.specs.Sight.{Sight, GoesOn}
use Rattle.shard_office.specs.Passes.{PassState, own}
use Rattle.shard_office.specs.Clerk.{ClerkState}
use Rattle.frozen_version.specs.Versions.{VersionState}
use Rattle.shard_office.specs.Versions.{IsVersionOf}

-- ---- scripts

-- team numbers that rise, the first of them above n
abbrev pub RisesFrom : (n : ℕ) → List Script → Type 0
RisesFrom n [] = ⊤
RisesFrom n (script ∷ scripts) = (n < script.team) × RisesFrom script.team scripts

-- team numbers from 1 that rise, and calls that an office of so many candidates can answer
pub record MayRun (candidates : ℕ) (scripts : List Script) : Type 0 where
  pub numbers : RisesFrom 0 scripts
  pub calls : All (λ script. All (IsAnswerable candidates) script.calls) scripts

-- the script that a pass has made
abbrev pub script_of : PassState → Script
script_of pass = record { team = pass.caller; calls = calls_of (own pass) }

-- the pass is of the script's team, and has made the first calls of the script: these are left
pub record HasBegun (pass : PassState) (script : Script) : Type 0 where
  pub number : pass.caller ≡ script.team
  pub left : List Call
  pub calls : script.calls ≡ calls_of (own pass) ++ left

-- passes of the first of these scripts, each of which has made the first calls of its script
abbrev pub HaveBegun : List PassState → List Script → Type 0
HaveBegun [] scripts = ⊤
HaveBegun (pass ∷ passes) [] = ⊥
HaveBegun (pass ∷ passes) (script ∷ scripts) = HasBegun pass script × HaveBegun passes scripts

-- ---- the clerk

-- a clerk who has made no pass yet
pub record IsFresh (clerk : ClerkState) : Type 0 where
  pub taken : clerk.taken ≡ []
  pub last_caller : clerk.last_caller ≡ 0
  pub open_teams : clerk.open_teams ≡ 0

-- the clerk of the same office, with the same calls of its own, who may have seen more
pub record IsSameClerk (old new : ClerkState) : Type 0 where
  pub office : new.desk.office ≡ old.desk.office
  pub caller : new.desk.caller ≡ old.desk.caller
  pub own_are : own new.desk ≡ own old.desk
  pub goes_on : GoesOn old.desk.sight new.desk.sight

-- the same clerk, and no pass is out
pub record HasAllBack (old new : ClerkState) : Type 0 where
  pub same : IsSameClerk old new
  pub open_teams : new.open_teams ≡ 0

-- ---- versions

-- the mark at the version's place was seen, and is a freeze of this caller
abbrev pub FrozeAt : Sight → ℕ → VersionState → Type 0
FrozeAt sight caller version = slice_get sight.marks (version.at - 1) ≡ Some (Freeze caller)

-- The version of a freeze by this pass: it is of what the pass has seen, and the mark at its place is the pass's own.
pub record IsFreezeOf (pass : PassState) (version : VersionState) : Type 0 where
  pub seen : IsVersionOf version pass.sight
  pub froze : FrozeAt pass.sight pass.caller version
  pub candidates : version.candidates ≡ pass.office.candidates

-- The versions of all freezes of these passes, by rising place, each of the sight of the pass that froze.
pub record AreVersionsOf (passes : List PassState) (versions : List VersionState) : Type 0 where
  pub as_many : length versions ≡ freezes (map script_of passes)
  pub rising : AllPairs (λ v w. v.at < w.at) versions
  pub each : All (λ v. Any (λ pass. IsFreezeOf pass v) passes) versions

-- ---- a law

-- the scripts of a day file can be run
abbrev pub DaysMayRun : Type 0
DaysMayRun = (candidates : ℕ) (scripts : List Script) → AreScripts candidates scripts → MayRun candidates scripts
