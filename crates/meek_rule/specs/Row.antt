-- What is written down of an iteration.
use Rattle.std.specs.Prelude.{◌≡◌, ℕ, Bool, false, List, length, replicate}
use Rattle.candidate_roll.specs.declared.state.State.{State}
use Rattle.candidate_roll.specs.declared.state.State.TheVariants.{Withdrawn}
use Rattle.meek_rule.specs.declared.step.Step.{Step}
use Rattle.meek_rule.specs.declared.step.Step.TheVariants.{Iterate}

-- States and keep values are those before the iteration.
pub record Row : Type 0 where
  pub round : ℕ
  pub iteration : ℕ
  pub states : List State
  pub keeps : List ℕ
  pub votes : List ℕ
  pub total : ℕ
  pub quota : ℕ
  pub surplus : ℕ
  pub elected : List Bool
  pub capped : List Bool
  pub tied : List Bool
  pub step : Step

-- the lists of a row are as long as there are candidates
pub record HasRoomFor (n : ℕ) (row : Row) : Type 0 where
  pub states : length row.states ≡ n
  pub keeps : length row.keeps ≡ n
  pub votes : length row.votes ≡ n
  pub elected : length row.elected ≡ n
  pub capped : length row.capped ≡ n
  pub tied : length row.tied ≡ n

-- a row of n candidates on which nothing is written yet
abbrev pub blank : (n : ℕ) → Row
blank n = record {
  round = 0;
  iteration = 0;
  states = replicate n Withdrawn;
  keeps = replicate n 0;
  votes = replicate n 0;
  total = 0;
  quota = 0;
  surplus = 0;
  elected = replicate n false;
  capped = replicate n false;
  tied = replicate n false;
  step = Iterate;
}
