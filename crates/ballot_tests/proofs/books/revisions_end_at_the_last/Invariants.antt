use Rattle.std.proofs.Common.{◌≡◌}
use Rattle.ballot_tests.proofs.books.revisions_end_at_the_last.Given as goal

abbrev pub invariant-loop-revision : goal.invariant-loop-revision
invariant-loop-revision g l = l.book.candidates ≡ 3
