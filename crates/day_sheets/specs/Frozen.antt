-- What stood at the freezes of a history.
use Rattle.std.specs.Prelude.{◌≡◌, ℕ, List, map, All}
use Rattle.batch_core.specs.declared.entry.Entry.{Entry}
use Rattle.frozen_version.specs.Versions.{VersionState, StandsIn}
use Rattle.day_lines.specs.DayText.{freeze_places}

-- the versions of all freezes of a history of so many candidates, by rising place, each with what is there
pub record AreFrozen (candidates : ℕ) (history : List Entry) (versions : List VersionState) : Type 0 where
  pub places : map (λ version. version.at) versions ≡ freeze_places history
  pub stand : All (λ version. StandsIn version history) versions
  pub of_all : All (λ version. version.candidates ≡ candidates) versions
