-- A team before and after its run, and the clerk on the way.
use Rattle.std.specs.Prelude.{◌≡◌, ℕ, ◌+◌, ◌<◌, ⊤, Bool, true, false, List, [], ◌∷◌, ◌++◌, length, map, reverse, count_by, All, AllPairs}
use Rattle.std.specs.List.{flat_map}
use Rattle.batch_core.specs.declared.call.Call.{Call}
use Rattle.day_reader.specs.declared.script.Script.{Script}
use Rattle.day_reader.specs.Call.{is_freeze}
use Rattle.day_reader.specs.Said.{IsAnswerable}
use Rattle.shard_office.specs.Office.{OfficeState}
use Rattle.shard_office.specs.Sight.{GoesOn}
use Rattle.shard_office.specs.Passes.{PassState, own}
use Rattle.shard_office.specs.Clerk.{ClerkState}
use Rattle.frozen_version.specs.Versions.{VersionState}
use Rattle.team_run.specs.declared.team.Team.{Team}
use Rattle.day_lines.specs.DayHistory.{calls_of}
use Rattle.team_run.specs.Teams.{HasBegun, RisesFrom, IsSameClerk, IsFreezeOf}

-- ---- one pass

-- how often a pass has frozen
abbrev pub freezes_of : PassState → ℕ
freezes_of pass = count_by is_freeze (calls_of (own pass))

-- the same pass, which may have seen more
pub record IsSamePass (old new : PassState) : Type 0 where
  pub office : new.office ≡ old.office
  pub caller : new.caller ≡ old.caller
  pub goes_on : GoesOn old.sight new.sight

-- The versions are those of the freezes that the pass has made so far, one for each, in their order.
pub record IsAtWork (pass : PassState) (versions : List VersionState) : Type 0 where
  pub as_many : length versions ≡ freezes_of pass
  pub rising : AllPairs (λ v w. v.at < w.at) versions
  pub each : All (IsFreezeOf pass) versions

-- ---- one team

-- the script that is left to a team
abbrev pub asked : Team → Script
asked team = record { team = team.pass.caller; calls = team.left }

-- a team of this office that has made no call yet
pub record IsReady (office : OfficeState) (team : Team) : Type 0 where
  pub office_is : team.pass.office ≡ office
  pub own_is : own team.pass ≡ []
  pub versions : team.versions.items ≡ []
  pub answerable : All (IsAnswerable office.candidates) team.left
  pub not_refused : team.refused ≡ false

-- The team has made the first of the calls that were left, or all of them where no memory was wanted, and has the
-- versions of its freezes.
pub record HasRun (office : OfficeState) (old new : Team) : Type 0 where
  pub office_is : new.pass.office ≡ office
  pub work : IsAtWork new.pass new.versions.items
  pub begun : HasBegun new.pass (asked old)
  pub whole : new.refused ≡ false → calls_of (own new.pass) ≡ old.left

-- so many calls are left, the last of them first, the others were made
pub record IsMaking (office : OfficeState) (caller : ℕ) (calls left : List Call) (pass : PassState) (versions : List VersionState) : Type 0 where
  pub office_is : pass.office ≡ office
  pub caller_is : pass.caller ≡ caller
  pub work : IsAtWork pass versions
  pub whole : calls ≡ calls_of (own pass) ++ reverse left
  pub answerable : All (IsAnswerable office.candidates) left

-- ---- all teams

-- each of these teams before and after its run
abbrev pub AreRun : OfficeState → List Team → List Team → Type 0
AreRun office [] [] = ⊤
AreRun office [] (new ∷ news) = ⊥
AreRun office (old ∷ olds) [] = ⊥
AreRun office (old ∷ olds) (new ∷ news) = HasRun office old new × AreRun office olds news

abbrev pub passes_of : List Team → List PassState
passes_of teams = map (λ team. team.pass) teams

abbrev pub versions_of : Team → List VersionState
versions_of team = team.versions.items

abbrev pub place_of : VersionState → ℕ
place_of version = version.at

-- ---- the clerk

-- the clerk has given one pass more, with this number
pub record HasGiven (number : ℕ) (old new : ClerkState) : Type 0 where
  pub desk : new.desk ≡ old.desk
  pub taken : new.taken ≡ old.taken
  pub last_caller : new.last_caller ≡ number
  pub open_teams : new.open_teams ≡ old.open_teams + 1

-- The clerk has given passes to the first of these scripts, and else is as before.
pub record HasOpened (office : OfficeState) (old : ClerkState) (scripts : List Script) (new : ClerkState) (teams : List Team) : Type 0 where
  pub desk : new.desk ≡ old.desk
  pub taken : new.taken ≡ old.taken
  pub open_teams : new.open_teams ≡ length teams
  pub ready : All (IsReady office) teams
  pub left : List Script
  pub first : scripts ≡ map asked teams ++ left

-- so many scripts are left, the last of them first, the others have their passes
pub record IsOpening (office : OfficeState) (old : ClerkState) (scripts left : List Script) (new : ClerkState) (teams : List Team) : Type 0 where
  pub opened : HasOpened office old scripts new teams
  pub whole : scripts ≡ map asked teams ++ reverse left
  pub rises : RisesFrom new.last_caller (reverse left)
  pub answerable : All (λ script. All (IsAnswerable office.candidates) script.calls) left

-- so many teams are left, the last of them first, the others were taken in
pub record IsTaking (office : OfficeState) (old : ClerkState) (teams left : List Team) (new : ClerkState) (versions : List VersionState) (whole : Bool) : Type 0 where
  pub done : List Team
  pub parts : teams ≡ done ++ reverse left
  pub of_office : All (λ team. team.pass.office ≡ office) left
  pub same : IsSameClerk old new
  pub taken : new.taken ≡ old.taken ++ passes_of done
  pub open_teams : new.open_teams ≡ length left
  pub versions_are : whole ≡ true → (versions ≡ flat_map versions_of done) × All (λ team. team.refused ≡ false) done
