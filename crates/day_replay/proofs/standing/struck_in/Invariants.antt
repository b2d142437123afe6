use Rattle.std.proofs.Common.{◌≡◌, take}
use Rattle.batch_core.specs.Book.{empty}
use Rattle.batch_core.specs.Histories.{after_all}
use Rattle.day_replay.proofs.standing.struck_in.Given as goal

abbrev pub invariant-loop-entry : goal.invariant-loop-entry
invariant-loop-entry l = l.struck.items ≡ (after_all empty (take l.entry-index l.entries)).struck
