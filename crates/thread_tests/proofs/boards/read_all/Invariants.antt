use Rattle.std.proofs.Common.{◌≡◌, length}
use Rattle.thread_tests.proofs.boards.read_all.Given as goal

abbrev pub invariant-loop : goal.invariant-loop
invariant-loop l = record {
  board : l.watcher.board ≡ l.fn.watcher.board;
  candidates : l.watcher.candidates ≡ 2;
  length : length l.totals ≡ 2;
}
