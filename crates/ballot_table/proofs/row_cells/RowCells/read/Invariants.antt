use Rattle.std.proofs.Common.{◌≡◌, ◌+◌, drop, sum_by}
use Rattle.std.specs.List.{zip}
use Rattle.ballot_table.specs.Asked.{asked_of}
use Rattle.ballot_table.specs.Finding.{candidates_at}
use Rattle.ballot_table.proofs.RowLemmas.{IsReading}
use Rattle.ballot_table.proofs.row_cells.RowCells.read.Given as goal

-- the cells so far are read, and the candidates counted
abbrev pub invariant-loop-at : goal.invariant-loop-at
invariant-loop-at l = record {
  reading : IsReading (asked_of l.asked) l.room (zip l.columns l.sheet.texts) (drop l.at (zip l.columns l.sheet.texts)) l.at l.self;
  candidates : l.self.holders.candidates + sum_by candidates_at (drop l.at l.columns) ≡ sum_by candidates_at l.columns;
}
