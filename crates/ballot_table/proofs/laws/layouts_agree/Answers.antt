use Rattle.ballot_table.proofs.ChoiceRows.{choices_say_rankings}
use Rattle.ballot_table.proofs.ListRows.{lists_say_rankings}
use Rattle.ballot_table.proofs.RankRows.{ranks_say_rankings}
use Rattle.ballot_table.proofs.laws.layouts_agree.Goals as goal

pub returns : goal.returns
returns c = record {
  choices = choices_say_rankings c.rankings_of_marks.ensures.plain;
  lists = lists_say_rankings c.rankings_of_marks.ensures.plain;
  ranks = ranks_say_rankings c.rankings_of_marks.ensures.plain;
}
