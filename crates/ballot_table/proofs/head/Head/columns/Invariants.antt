use Rattle.std.proofs.Common.{take}
use Rattle.ballot_table.specs.Asked.{asked_of}
use Rattle.ballot_table.specs.Finding.{IsSeenBy}
use Rattle.ballot_table.proofs.HeadLemmas.{AreColumns}
use Rattle.ballot_table.proofs.head.Head.columns.Given as goal

-- the columns of the texts so far, and the ranks that they are of
abbrev pub invariant-loop-at : goal.invariant-loop-at
invariant-loop-at l = record {
  columns : AreColumns l.asked l.texts l.at l.columns.items l.others;
  seen : IsSeenBy (asked_of l.asked) l.texts (take l.at l.texts) l.seen.items;
}
