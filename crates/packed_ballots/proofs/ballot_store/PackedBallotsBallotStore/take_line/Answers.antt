use Rattle.std.proofs.Common.{List, ◌++◌, take, replicate}
use Rattle.std.specs.List.Sorted.{IsPermutation}
use Rattle.std.proofs.lemmas.Result.{on_ok_weaker}
use Rattle.plain_ballots.specs.declared.ballot_line.BallotLine.{BallotLine}
use Rattle.plain_ballots.specs.Ballots.{plain}
use Rattle.packed_ballots.proofs.TakenLemmas.{same_more}
use Rattle.packed_ballots.proofs.ballot_store.PackedBallotsBallotStore.take_line.Goals as goal

pub returns-clause-lines : goal.returns-clause-lines
returns-clause-lines c =
    let old = c.args.self.now.lines in
    let new = c.take.new.self.lines in
    let line : BallotLine = record { count = c.args.count; ranking = take c.args.len c.args.ranks.now } in
    on_ok_weaker c.take.result
    (λ (taken : IsPermutation (plain new) (plain old ++ replicate line.count line.ranking)) (lines : List BallotLine)
    (same : IsPermutation (plain old) (plain lines)).
    same_more old new lines line taken same)
    c.take.ensures.ballots
