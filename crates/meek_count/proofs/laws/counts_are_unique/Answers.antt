use Rattle.meek_count.proofs.WholeCount.{one_count, one_end, count-IsPermutation}
use Rattle.meek_count.proofs.laws.counts_are_unique.Goals as goal

pub returns-clause-elections : goal.returns-clause-elections
returns-clause-elections c = one_count

pub returns-clause-situations : goal.returns-clause-situations
returns-clause-situations c = one_end

pub returns-clause-orders : goal.returns-clause-orders
returns-clause-orders c = count-IsPermutation
