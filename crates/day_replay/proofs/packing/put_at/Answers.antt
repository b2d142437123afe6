use Rattle.std.proofs.Common.{◌+◌, ◌≤◌, ◌++◌, arith}
use Rattle.std.specs.List.Sorted.{IsPermutation}
use Rattle.plain_ballots.specs.Ballots.{ballot_count, plain}
use Rattle.batch_core.specs.declared.limits.TheConstants.{MOST_OF_BATCH}
use Rattle.day_replay.proofs.PackedLines.{count_of_both, on_ok}
use Rattle.day_replay.proofs.packing.put_at.Goals as goal

pub put-requires-clause-candidates : goal.put-requires-clause-candidates
put-requires-clause-candidates c = (c.in-Some.ensures.batch c.args.packed.now.candidates c.requires.answerable).0

pub put-requires-clause-room : goal.put-requires-clause-room
put-requires-clause-room c =
    let few = (c.in-Some.ensures.batch c.args.packed.now.candidates c.requires.answerable).1 in
    omega (arith, few, c.requires.room)

pub returns-in-Some-clause-few : goal.returns-in-Some-clause-few
returns-in-Some-clause-few c =
    let old = c.args.packed.now.lines in
    let new = c.put.new.packed.lines in
    let lines = c.in-Some.ballots.now.lines in
    let few = (c.in-Some.ensures.batch c.args.packed.now.candidates c.requires.answerable).1 in
    on_ok c.put.result (IsPermutation (plain new) (plain old ++ plain lines)) (ballot_count new ≤ ballot_count old + MOST_OF_BATCH)
    (λ same. let both = count_of_both new old lines same in omega (arith, both, few)) c.put.ensures.ballots
