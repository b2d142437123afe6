use Rattle.std.proofs.Common.{◌≡◌, take}
use Rattle.sheet_minutes.specs.Table.{widest_of}
use Rattle.sheet_minutes.proofs.widths.widest_of.Given as goal

abbrev pub invariant-loop-row : goal.invariant-loop-row
invariant-loop-row g l = l.most ≡ widest_of g.row.P l.ballots (take l.row-index l.fn.rows)
