use Rattle.std.proofs.Common.{◌∙◌}
use Rattle.packed_ballots.proofs.TakenLemmas.{same_count}
use Rattle.packed_ballots.proofs.ballot_store.PackedBallotsBallotStore.ballot_count.Goals as goal

pub returns : goal.returns
returns c = λ lines same. c.total.ensures ∙ same_count c.args.self.now.lines lines same
