-- An election worked by hand from which a withdrawn candidate is left out.
use Rattle.std.specs.Prelude.{◌≡◌, ℕ, false, true, List, [], ◌∷◌, ◌++◌, replicate, codes, map}
use Rattle.candidate_roll.specs.Roll.{RollList}
use Rattle.candidate_roll.specs.declared.state.State.TheVariants.{Hopeful, Elected, Defeated, Withdrawn}
use Rattle.meek_rule.specs.declared.step.Step.TheVariants.{Defeat}
use Rattle.meek_rule.specs.Row.{Row}
use Rattle.meek_count.specs.Worked.{sample_ballots, sample_roll}
use Rattle.rule_laws.specs.Absence.{closed_up, roll_left, row_left, states_left}

-- Of Ann, Ben, Cid and Dee, Ben was withdrawn. Without him Cid is number 2 and Dee number 3.
abbrev pub sample_left : RollList
sample_left = record {
  seats = 2;
  names = codes "Ann" ∷ codes "Cid" ∷ codes "Dee" ∷ [];
  title = codes "Sample";
  withdrawn = false ∷ false ∷ false ∷ [];
}

-- The ballots are 1 3 4, 1 3 2, 4 1 3, 2, 4 3 1 and 3 4 2. The one that ranks Ben alone stays, and ranks
-- nobody.
abbrev pub ballots_left : List (List ℕ)
ballots_left =
    replicate 3 (1 ∷ 2 ∷ 3 ∷ []) ++ replicate 4 (1 ∷ 2 ∷ []) ++ replicate 2 (3 ∷ 1 ∷ 2 ∷ [])
    ++ replicate 1 [] ++ replicate 2 (3 ∷ 2 ∷ 1 ∷ []) ++ replicate 1 (2 ∷ 3 ∷ [])

-- the third iteration of the count of all four: Cid is tied alone, and defeated
abbrev pub third_of_four : Row
third_of_four = record {
  round = 2;
  iteration = 2;
  states = Elected ∷ Withdrawn ∷ Hopeful ∷ Hopeful ∷ [];
  keeps = 571428572 ∷ 0 ∷ 1000000000 ∷ 1000000000 ∷ [];
  votes = 4000000004 ∷ 0 ∷ 3999999996 ∷ 4000000000 ∷ [];
  total = 12000000000;
  quota = 4000000001;
  surplus = 3;
  elected = false ∷ false ∷ false ∷ false ∷ [];
  capped = false ∷ false ∷ false ∷ false ∷ [];
  tied = false ∷ false ∷ true ∷ false ∷ [];
  step = Defeat 3;
}

-- and of the three
abbrev pub third_of_three : Row
third_of_three = record {
  round = 2;
  iteration = 2;
  states = Elected ∷ Hopeful ∷ Hopeful ∷ [];
  keeps = 571428572 ∷ 1000000000 ∷ 1000000000 ∷ [];
  votes = 4000000004 ∷ 3999999996 ∷ 4000000000 ∷ [];
  total = 12000000000;
  quota = 4000000001;
  surplus = 3;
  elected = false ∷ false ∷ false ∷ [];
  capped = false ∷ false ∷ false ∷ [];
  tied = false ∷ true ∷ false ∷ [];
  step = Defeat 2;
}

-- what leaving Ben out makes of roll, ballots, some lots, a row and the last states
pub record BenIsLeftOut : Type 0 where
  pub ballots : map (closed_up sample_roll.withdrawn) sample_ballots ≡ ballots_left
  pub roll : roll_left sample_roll ≡ sample_left
  pub lots : closed_up sample_roll.withdrawn (4 ∷ 2 ∷ 1 ∷ 3 ∷ []) ≡ 3 ∷ 1 ∷ 2 ∷ []
  pub row : row_left sample_roll.withdrawn third_of_four ≡ third_of_three
  pub last :
      states_left sample_roll.withdrawn (Elected ∷ Withdrawn ∷ Defeated ∷ Elected ∷ [])
      ≡ Elected ∷ Defeated ∷ Elected ∷ []
