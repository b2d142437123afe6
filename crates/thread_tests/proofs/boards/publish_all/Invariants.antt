use Rattle.std.proofs.Common.{◌≡◌, []}
use Rattle.thread_tests.proofs.boards.publish_all.Given as goal

abbrev pub invariant-loop : goal.invariant-loop
invariant-loop g l = record {
  board : l.scribe.board ≡ l.fn.scribe.board;
  pending : l.scribe.pending ≡ [];
}
