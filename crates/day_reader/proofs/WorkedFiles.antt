-- Day files worked by hand, by computation.
use Rattle.std.proofs.Common.{refl}
use Rattle.input_text.specs.Scan as text
use Rattle.blt_reader.specs.BltTable as blt
use Rattle.day_reader.specs.Keyword.{keyword_of}
use Rattle.day_reader.specs.Day.{by_number}
use Rattle.day_reader.specs.CallTable.{at_call}
use Rattle.day_reader.specs.TeamTable.{at_teams}
use Rattle.day_reader.specs.DayTable.{at_token}
use Rattle.day_reader.specs.Worked.{EachCall, TurnedTeams, HeadRefusals, TeamRefusals}

pub each_call : EachCall
unfolding text.cut text.piece text.number_piece text.string_piece text.word_piece blt.at_token keyword_of
    by_number at_call at_teams at_token
each_call = refl

pub turned_teams : TurnedTeams
unfolding text.cut text.piece text.number_piece text.string_piece text.word_piece blt.at_token keyword_of
    by_number at_call at_teams at_token
turned_teams = refl

pub head_refusals : HeadRefusals
unfolding text.cut text.piece text.number_piece text.string_piece text.word_piece blt.at_token keyword_of
    by_number at_call at_teams at_token
head_refusals = record {
  ballots_in_the_roll = refl;
  lot_twice = refl;
  lot_missing = refl;
  nothing = refl;
  call_without_team = refl;
  capital_letters = refl;
  few_places = refl;
  no_omega = refl;
  places_alone = refl;
  end_twice = refl;
}

pub team_refusals : TeamRefusals
unfolding text.cut text.piece text.number_piece text.string_piece text.word_piece blt.at_token keyword_of
    by_number at_call at_teams at_token
team_refusals = record {
  no_such_team = refl;
  team_twice = refl;
  late_places = refl;
  no_such_batch = refl;
  no_such_revision = refl;
  large_batch = refl;
  rank_twice = refl;
  strike_nobody = refl;
  ninth_freeze = refl;
  no_end = refl;
}
