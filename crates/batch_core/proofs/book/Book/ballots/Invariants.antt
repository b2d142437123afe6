use Rattle.std.proofs.Common.{◌≡◌, ◌++◌}
use Rattle.batch_core.specs.Book.{standing, state_of}
use Rattle.batch_core.proofs.OrderLemmas.{all_lines, AreOfBatches}
use Rattle.batch_core.proofs.book.Book.ballots.Given as goal

abbrev pub invariant-loop-batch : goal.invariant-loop-batch
invariant-loop-batch l =
    (l.ballots.candidates ≡ l.self.candidates)
    × (l.ballots.lines ++ all_lines l.batch-iterator ≡ standing (state_of l.self))
    × AreOfBatches l.self.candidates l.batch-iterator
