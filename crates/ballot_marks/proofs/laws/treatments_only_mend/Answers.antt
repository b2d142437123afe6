use Rattle.ballot_marks.proofs.PlainLemmas.{plain}
use Rattle.ballot_marks.proofs.laws.treatments_only_mend.Goals as goal

pub returns : goal.returns
returns c = λ treatment marks ranks is. plain marks ranks is treatment
