use Rattle.std.proofs.Common.{replicate}
use Rattle.sheet_page.specs.Prints.{Prints}
use Rattle.day_page.proofs.columns.write_spaces.Given as goal

abbrev pub invariant-loop : goal.invariant-loop
invariant-loop g l = Prints g.K.Sink l.initial.pen l.pen (replicate l.counter 32)
