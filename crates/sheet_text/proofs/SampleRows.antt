-- The rows and last states of the sample election.
use Rattle.std.proofs.Common.{true, false, List, [], ◌∷◌}
use Rattle.candidate_roll.specs.declared.state.State.{State}
use Rattle.candidate_roll.specs.declared.state.State.TheVariants.{Hopeful, Elected as IsElected, Defeated, Withdrawn}
use Rattle.meek_rule.specs.declared.step.Step.TheVariants.{Elected, Iterate, Defeat}
use Rattle.meek_rule.specs.Row.{Row}
use Rattle.meek_count.specs.Worked.{none_of_four}

abbrev first_row : Row
first_row = record {
  round = 1;
  iteration = 1;
  states = Hopeful ∷ Withdrawn ∷ Hopeful ∷ Hopeful ∷ [];
  keeps = 1000000000 ∷ 0 ∷ 1000000000 ∷ 1000000000 ∷ [];
  votes = 7000000000 ∷ 0 ∷ 1000000000 ∷ 4000000000 ∷ [];
  total = 12000000000;
  quota = 4000000001;
  surplus = 2999999999;
  elected = true ∷ false ∷ false ∷ false ∷ [];
  capped = none_of_four;
  tied = none_of_four;
  step = Elected;
}

abbrev second_row : Row
second_row = record {
  round = 2;
  iteration = 1;
  states = IsElected ∷ Withdrawn ∷ Hopeful ∷ Hopeful ∷ [];
  keeps = 1000000000 ∷ 0 ∷ 1000000000 ∷ 1000000000 ∷ [];
  votes = 7000000000 ∷ 0 ∷ 1000000000 ∷ 4000000000 ∷ [];
  total = 12000000000;
  quota = 4000000001;
  surplus = 2999999999;
  elected = none_of_four;
  capped = none_of_four;
  tied = none_of_four;
  step = Iterate;
}

abbrev third_row : Row
third_row = record {
  round = 2;
  iteration = 2;
  states = IsElected ∷ Withdrawn ∷ Hopeful ∷ Hopeful ∷ [];
  keeps = 571428572 ∷ 0 ∷ 1000000000 ∷ 1000000000 ∷ [];
  votes = 4000000004 ∷ 0 ∷ 3999999996 ∷ 4000000000 ∷ [];
  total = 12000000000;
  quota = 4000000001;
  surplus = 3;
  elected = none_of_four;
  capped = none_of_four;
  tied = false ∷ false ∷ true ∷ false ∷ [];
  step = Defeat 3;
}

abbrev pub sample_rows : List Row
sample_rows = first_row ∷ second_row ∷ third_row ∷ []

abbrev pub sample_last : List State
sample_last = IsElected ∷ Withdrawn ∷ Defeated ∷ IsElected ∷ []
