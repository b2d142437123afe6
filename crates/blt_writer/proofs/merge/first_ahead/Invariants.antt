use Rattle.std.proofs.Common.{◌≡◌, ℕ, ◌<◌, List, false, length, get_or}
use Rattle.plain_ballots.specs.declared.ballot_line.BallotLine.{BallotLine}
use Rattle.blt_writer.specs.Merge.{is_ahead}
use Rattle.blt_writer.proofs.merge.first_ahead.Given as goal

abbrev pub invariant-loop-at : goal.invariant-loop-at
invariant-loop-at l = record {
  inside : l.first < length l.cursors;
  first : (d : List BallotLine) (k : ℕ) → k < l.at → is_ahead (get_or l.cursors k d) (get_or l.cursors l.first d) ≡ false;
}
