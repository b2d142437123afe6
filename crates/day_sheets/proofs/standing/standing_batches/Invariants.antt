use Rattle.std.proofs.Common.{drop}
use Rattle.day_sheets.proofs.StandingWalk.{HasWalked}
use Rattle.day_sheets.proofs.standing.standing_batches.Given as goal

abbrev pub invariant-loop-entry : goal.invariant-loop-entry
invariant-loop-entry l = HasWalked l.entries (drop l.entry-index l.entries) l.standing
