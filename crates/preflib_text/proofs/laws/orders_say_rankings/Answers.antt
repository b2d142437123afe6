use Rattle.preflib_text.proofs.WrittenHeads.{written_orders_say_ballots}
use Rattle.preflib_text.proofs.WrittenTexts.{orders_say_ballots, orders_say_rankings}
use Rattle.preflib_text.proofs.laws.orders_say_rankings.Goals as goal

pub returns : goal.returns
returns c = record {
  counted = orders_say_ballots c.rankings_of_marks.ensures.plain;
  single = orders_say_rankings c.rankings_of_marks.ensures.plain;
  texts = written_orders_say_ballots c.rankings_of_marks.ensures.plain;
}
