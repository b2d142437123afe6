use Rattle.std.proofs.Common.{◌≡◌, take}
use Rattle.sheet_minutes.specs.Table.{widest}
use Rattle.sheet_minutes.proofs.widths.widest.Given as goal

abbrev pub invariant-loop-amount : goal.invariant-loop-amount
invariant-loop-amount g l = l.most ≡ widest g.row.P (take l.amount-index l.fn.amounts)
