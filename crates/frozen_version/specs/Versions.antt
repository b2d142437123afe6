-- A version: what stood at a freeze.
use Rattle.std.specs.Prelude.{◌≡◌, ℕ, ◌-◌, ◌≤◌, List, length, slice_get, Some, IsPermutation}
use Rattle.plain_ballots.specs.Ballots.{plain}
use Rattle.batch_core.specs.declared.entry.Entry.{Entry}
use Rattle.batch_core.specs.Histories.{standing_after, struck_after}
use Rattle.call_register.specs.Weaving.{freeze_entry}
use Rattle.frozen_plan.specs.Plan.{PlanRows, all_ballots}

-- the number of calls up to the freeze, the ballots that stood as plans of so many candidates, and who was struck
pub record VersionState : Type 0 where
  pub at : ℕ
  pub candidates : ℕ
  pub plans : List PlanRows
  pub struck : List ℕ

-- What a version is in a history: one of the calls is its freeze, its ballots are, in any order, those that stand after
-- it, and its struck candidates are those struck until then.
pub record StandsIn (version : VersionState) (history : List Entry) : Type 0 where
  pub some : 1 ≤ version.at
  pub inside : version.at ≤ length history
  pub freeze : (caller : ℕ) × (slice_get history (version.at - 1) ≡ Some (freeze_entry caller))
  pub ballots : IsPermutation (all_ballots version.plans) (plain (standing_after history version.at))
  pub struck : version.struck ≡ struck_after history version.at
