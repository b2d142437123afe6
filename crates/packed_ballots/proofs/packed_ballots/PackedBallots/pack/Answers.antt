use Rattle.std.proofs.Common.{◌≡◌, List, [], ◌∷◌, ◌++◌, arith, ap, sym, subst, ◌∙◌}
use Rattle.std.specs.List.Sorted.{IsPermutation}
use Rattle.plain_ballots.specs.declared.ballot_line.BallotLine.{BallotLine}
use Rattle.plain_ballots.specs.Ballots.{BallotList, ballot_count, plain}
use Rattle.packed_ballots.proofs.TakenLemmas.{room_for, one_packed}
use Rattle.packed_ballots.proofs.packed_ballots.PackedBallots.pack.Goals as goal

-- the ballots that are packed and left are those of the lines before the last, and its own
abbrev Left : (all packed left : List BallotLine) → BallotLine → Type 0
Left all packed left line = IsPermutation (plain packed ++ plain (left ++ line ∷ [])) (plain all)

with_last :
    (all packed : List BallotLine) (old new : BallotList) (line : BallotLine)
    → old ≡ record new { lines = new.lines ++ line ∷ [] } → IsPermutation (plain packed ++ plain old.lines) (plain all)
    → Left all packed new.lines line
with_last all packed old new line last same =
    subst (λ (b : BallotList). IsPermutation (plain packed ++ plain b.lines) (plain all)) last same

pub take_whole-requires-clause-room : goal.take_whole-requires-clause-room
take_whole-requires-clause-room c =
    let all = c.args.ballots.lines in
    let packed = c.loop-line.packed.lines in
    let left = c.pop_line.new.self in
    let line = c.in-Some.line in
    let same = with_last all packed c.loop-line.ballots left line c.in-Some.ensures.last c.loop-line.invariant.ballots in
    omega (
      arith,
      room_for all packed left.lines line same,
      c.ballots.invariant.0.bounded,
      ap (λ (b : BallotList). ballot_count b.lines) c.ballots.view_is,
    )

pub loop-line-preserved : goal.loop-line-preserved
loop-line-preserved c =
    let all = c.args.ballots.lines in
    let packed = c.loop-line.packed.lines in
    let left = c.pop_line.new.self in
    let line = c.in-Some.line in
    let same = with_last all packed c.loop-line.ballots left line c.in-Some.ensures.last c.loop-line.invariant.ballots in
    record {
      left = sym (ap (λ (b : BallotList). b.candidates) c.in-Some.ensures.last) ∙ c.loop-line.invariant.left;
      candidates = c.take_whole.ensures.candidates ∙ c.loop-line.invariant.candidates;
      ballots = one_packed all packed left.lines line same c.take_whole.new.self.lines c.in_ok-take_whole.ensures.ballots;
    }
