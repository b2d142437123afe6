use Rattle.std.proofs.Common.{◌≤◌, take}
use Rattle.ballot_table.specs.PlainRows.{IsPlaced}
use Rattle.ballot_table.proofs.plain_row.place_each.Given as goal

-- the candidates so far are placed
abbrev pub invariant-loop-at : goal.invariant-loop-at
invariant-loop-at l = record {
  placed : IsPlaced (take l.at l.cells) l.placed l.ranked;
  few : l.ranked ≤ l.at;
}
