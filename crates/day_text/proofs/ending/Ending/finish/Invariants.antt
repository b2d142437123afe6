use Rattle.std.proofs.Common.{◌≡◌}
use Rattle.batch_core.specs.Book.{BookState}
use Rattle.day_text.specs.End.{Follows, batch_ends}
use Rattle.day_text.proofs.ending.Ending.finish.Given as goal

abbrev pub invariant-loop-at : goal.invariant-loop-at
invariant-loop-at l =
    (book : BookState) → Follows l.table.items l.struck.items book → l.batches.items ≡ batch_ends book l.at
