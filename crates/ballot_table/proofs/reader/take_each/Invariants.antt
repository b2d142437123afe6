use Rattle.std.proofs.Common.{◌≡◌, length}
use Rattle.ballot_table.proofs.LeftLemmas.{IsGoing}
use Rattle.ballot_table.proofs.reader.take_each.Given as goal

-- the rows so far are taken in
abbrev pub invariant-rows : goal.invariant-rows
invariant-rows l = record {
  going : IsGoing l.asked l.columns l.fn.sheet.records.rest l.taken.room l.sheet.records.rest l.taken.ballots l.taken.tally;
  candidates : l.taken.ballots.candidates ≡ l.fn.taken.ballots.candidates;
}

abbrev pub decreases-rows : goal.decreases-rows
decreases-rows l = length l.sheet.records.rest.rows
