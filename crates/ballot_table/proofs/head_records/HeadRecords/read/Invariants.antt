use Rattle.std.proofs.Common.{◌≡◌, ◌≤◌, ◌-◌, map, take}
use Rattle.ballot_table.specs.Imported.{head_ended, texts_in, IsTableStop}
use Rattle.ballot_table.specs.Sheets.{left_after, IsLastOf}
use Rattle.ballot_table.proofs.head_records.HeadRecords.read.Given as goal

-- the records so far
abbrev pub invariant-loop-read : goal.invariant-loop-read
invariant-loop-read l = record {
  few : l.read ≤ l.asked.heads;
  rest : l.sheet.records.rest ≡ left_after l.read l.fn.sheet.records.rest;
  texts : l.texts.items ≡ map texts_in (take l.read l.fn.sheet.records.rest.rows);
  last : 1 ≤ l.read → IsLastOf l.read l.fn.sheet.records.rest l.place l.sheet;
  ended : IsTableStop (head_ended (take l.read l.fn.sheet.records.rest.rows)) l.ended;
}

abbrev pub decreases-loop-read : goal.decreases-loop-read
decreases-loop-read l = l.asked.heads - l.read
