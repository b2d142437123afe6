use Rattle.tally_board.specs.Stories.{moves_of}
use Rattle.tally_board.proofs.MoveLemmas.{goes_on}
use Rattle.tally_board.proofs.board.BoardAbsorbEntry.absorb_first.Goals as goal

pub invariant_of-self : goal.invariant_of-self
invariant_of-self c = let was = c.args.self.now in record {
  right =
      goes_on (moves_of was.story) _ c.args.operation.now.step was.totals _ was.right c.follow.ensures.totals
      c.follow.ensures.length c.push.ensures;
}
