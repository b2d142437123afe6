use Rattle.packed_ballots.proofs.Fronts.{fronts_eight, fronts_all, digits_order}
use Rattle.packed_ballots.proofs.laws.fronts_tell_rankings.Goals as goal

pub returns : goal.returns
returns c = record {
  eight = fronts_eight;
  all = fronts_all;
  order = λ one other ones theirs le at early same. digits_order 8 at one other ones theirs le early same;
}
