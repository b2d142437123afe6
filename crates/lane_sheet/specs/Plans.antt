-- What can be counted.
use Rattle.std.specs.Prelude.{◌≡◌, ℕ, ◌≤◌, List, length, All}
use Rattle.plain_ballots.specs.declared.limits.TheConstants.{MOST_BALLOTS}
use Rattle.candidate_roll.specs.Roll.{RollList}
use Rattle.frozen_plan.specs.Plan.{PlanRows, all_ballots}
use Rattle.meek_rule.specs.Rule.{Rule, Meek}

-- plans of so many candidates, and of no more ballots than an election has
pub record CanBeCounted (candidates : ℕ) (plans : List PlanRows) : Type 0 where
  pub candidates_are : All (λ plan. plan.candidates ≡ candidates) plans
  pub few_ballots : length (all_ballots plans) ≤ MOST_BALLOTS

-- Distributions by Meek's rule and rolls, all of so many candidates, and of no more ballots than an election has.
pub record AreReady {D : Type 0} (rule : Rule) (ballots : D → List (List ℕ)) (candidates : D → ℕ) (can : D → Type 0)
    (n : ℕ) (rolls : List RollList) (spreads : List D) : Type 0 where
  pub rule_is : rule ≡ Meek
  pub rolls_of_all : All (λ roll. length roll.names ≡ n) rolls
  pub can_spread : All can spreads
  pub spreads_of_all : All (λ s. candidates s ≡ n) spreads
  pub few_ballots : All (λ s. length (ballots s) ≤ MOST_BALLOTS) spreads
