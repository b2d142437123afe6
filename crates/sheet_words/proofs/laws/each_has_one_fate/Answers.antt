use Rattle.sheet_words.proofs.OneFate.{one_fate}
use Rattle.sheet_words.proofs.laws.each_has_one_fate.Goals as goal

pub returns : goal.returns
returns c = one_fate c.rows_stay_in_range.ensures
