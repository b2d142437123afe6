use Rattle.meek_count.proofs.RowRanges.{count_in_range}
use Rattle.meek_count.proofs.laws.rows_stay_in_range.Goals as goal

pub returns : goal.returns
returns c = count_in_range
