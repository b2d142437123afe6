use Rattle.rule_laws.proofs.InFigures.{four_before_three, fourteen_of_27, nine_of_26, one_is_left, solid_fourteen_of_27, two_of_three, two_seats_alike}
use Rattle.rule_laws.proofs.InFigures.{five_of_twelve, four_of_ten, four_of_ten_heard, orderly_five_of_twelve, quiet_three_of_49, rises_to_six, three_of_14}
use Rattle.rule_laws.proofs.figures.laws_hold_in_figures.Goals as goal

pub returns-clause-two_of_three : goal.returns-clause-two_of_three
returns-clause-two_of_three c = two_of_three c.seats_are_filled.ensures.filled

pub returns-clause-one_is_left : goal.returns-clause-one_is_left
returns-clause-one_is_left c = one_is_left c.seats_are_filled.ensures.filled

pub returns-clause-two_seats : goal.returns-clause-two_seats
returns-clause-two_seats c = two_seats_alike c.one_seat_is_the_alternative_vote.ensures.rules

pub returns-clause-share : goal.returns-clause-share
returns-clause-share c = nine_of_26 c.majorities_win.ensures.share

pub returns-clause-first : goal.returns-clause-first
returns-clause-first c = fourteen_of_27 c.majorities_win.ensures.first

pub returns-clause-plurality : goal.returns-clause-plurality
returns-clause-plurality c = four_before_three c.first_preferences_count.ensures.plurality

pub returns-clause-solid : goal.returns-clause-solid
returns-clause-solid c = solid_fourteen_of_27 c.majorities_win.ensures.solid

pub returns-clause-quotas : goal.returns-clause-quotas
returns-clause-quotas c = four_of_ten c.coalitions_are_seated.ensures.quotas

pub returns-clause-heard : goal.returns-clause-heard
returns-clause-heard c = four_of_ten_heard c.silent_ballots_change_nothing.ensures.quotas

pub returns-clause-shares : goal.returns-clause-shares
returns-clause-shares c = five_of_twelve c.coalitions_are_seated.ensures.shares

pub returns-clause-orderly : goal.returns-clause-orderly
returns-clause-orderly c = orderly_five_of_twelve c.coalitions_are_seated.ensures.orderly

pub returns-clause-hundredths : goal.returns-clause-hundredths
returns-clause-hundredths c = quiet_three_of_49 c.coalitions_are_seated.ensures.hundredths

pub returns-clause-one : goal.returns-clause-one
returns-clause-one c = three_of_14 c.coalitions_are_seated.ensures.one

pub returns-clause-keep : goal.returns-clause-keep
returns-clause-keep c = rises_to_six c.keep_values_rise_by_a_unit.ensures
