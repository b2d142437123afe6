use Rattle.ballot_marks.proofs.DifferentLemmas.{ranked_different}
use Rattle.ballot_marks.proofs.CutLemmas.{cut_leaves_a_front}
use Rattle.ballot_marks.proofs.PlainLemmas.{whole}
use Rattle.ballot_marks.proofs.PlainRanks.{plain_marks_are_ranked}
use Rattle.ballot_marks.proofs.laws.rankings_of_marks.Goals as goal

pub returns : goal.returns
returns c = record { different = ranked_different; front = cut_leaves_a_front; whole = whole; plain = plain_marks_are_ranked }
