use Rattle.packed_ballots.proofs.Lines.{plain-lines_of, count-lines_of}
use Rattle.packed_ballots.proofs.laws.packed_lines_stand_for_ballots.Goals as goal

pub returns : goal.returns
returns c = record {
  ballots = plain-lines_of;
  count = count-lines_of;
}
