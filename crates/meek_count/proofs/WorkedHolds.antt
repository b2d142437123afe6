-- The worked counts, by computing.
use Rattle.std.proofs.Common.{refl, [], ◌∷◌}
use Rattle.fixed_place.specs.Rounding.{scale}
use Rattle.candidate_roll.specs.declared.state.State.TheVariants.{Elected, Defeated, Withdrawn}
use Rattle.meek_rule.specs.Situation.{opening}
use Rattle.meek_rule.specs.Rule.{Meek}
use Rattle.meek_count.specs.Worked.{ten_four_three, three_for_two, three_iterations, ThreeIterations, at_six_places, AtSixPlaces}
use Rattle.meek_count.specs.Worked.{sample_ballots, sample_roll, sample_rows, SampleElection}
use Rattle.meek_count.specs.WorkedLoneBallot.{lone_ballot, lone_rows, LoneBallot}
use Rattle.meek_count.proofs.WorkedRows.{counted_with}

pub ThreeIterations-holds : ThreeIterations
ThreeIterations-holds =
    counted_with Meek (scale 9) ten_four_three (1 ∷ 2 ∷ 3 ∷ []) (opening (scale 9) 1000 2 three_for_two.withdrawn)
    three_iterations (Elected ∷ Elected ∷ Defeated ∷ []) refl refl refl

pub AtSixPlaces-holds : AtSixPlaces
AtSixPlaces-holds =
    counted_with Meek (scale 6) ten_four_three (1 ∷ 2 ∷ 3 ∷ []) (opening (scale 6) 1 2 three_for_two.withdrawn)
    at_six_places (Elected ∷ Elected ∷ Defeated ∷ []) refl refl refl

pub SampleElection-holds : SampleElection
SampleElection-holds =
    counted_with Meek (scale 9) sample_ballots (1 ∷ 2 ∷ 3 ∷ 4 ∷ []) (opening (scale 9) 1000 2 sample_roll.withdrawn)
    sample_rows (Elected ∷ Withdrawn ∷ Defeated ∷ Elected ∷ []) refl refl refl

pub LoneBallot-holds : LoneBallot
LoneBallot-holds =
    counted_with Meek (scale 9) lone_ballot (2 ∷ 3 ∷ 1 ∷ []) (opening (scale 9) 1000 2 three_for_two.withdrawn)
    lone_rows (Elected ∷ Defeated ∷ Elected ∷ []) refl refl refl
