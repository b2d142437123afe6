-- Lanes that workers begin.
use Rattle.std.specs.Prelude.{◌≡◌, ℕ, List, length}
use Rattle.frozen_plan.specs.Plan.{PlanRows, all_ballots}
use Rattle.vote_spread.specs.Lanes.{LanesSeen}

-- lanes over the ballots of these plans, of so many candidates, where so many units are a vote
pub record AreLanesOf (scale candidates : ℕ) (plans : List PlanRows) (lanes : LanesSeen) : Type 0 where
  pub scaled : lanes.scale ≡ scale
  pub of_all : length lanes.keeps ≡ candidates
  pub of_ballots : lanes.ballots ≡ all_ballots plans
