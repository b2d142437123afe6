use Rattle.std.proofs.Common.{refl}
use Rattle.ballot_table.specs.Rows.{said_up_to}
use Rattle.ballot_table.proofs.worked.worked_chosen.Goals as goal

pub returns : goal.returns
unfolding said_up_to
returns c = record {
  lone_head = refl;
  lone_head_read = refl;
  in_order_of_rank = refl;
  beside_a_weight = refl;
  passed_over = refl;
  nowhere = refl;
  again = refl;
  ballots = refl;
}
