use Rattle.std.proofs.Common.{take}
use Rattle.ballot_table.specs.Rows.{at_places}
use Rattle.ballot_table.specs.Said.{IsSaying}
use Rattle.ballot_table.proofs.row_cells.say_at.Given as goal

-- the ranks so far are said
abbrev pub invariant-loop-place : goal.invariant-loop-place
invariant-loop-place l = IsSaying (at_places (take l.place-index l.places) l.chosen) l.said
