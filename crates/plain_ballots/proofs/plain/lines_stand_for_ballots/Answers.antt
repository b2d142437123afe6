use Rattle.plain_ballots.proofs.PlainLemmas.{length-plain, plain-append, sum_by-plain, plain-IsPermutation}
use Rattle.plain_ballots.proofs.plain.lines_stand_for_ballots.Goals as goal

pub returns : goal.returns
returns c = record {
  count = length-plain;
  joined = plain-append;
  sums = sum_by-plain;
  order = plain-IsPermutation;
}
