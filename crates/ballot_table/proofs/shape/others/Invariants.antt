use Rattle.std.proofs.Common.{◌≡◌, ◌≤◌, length, take}
use Rattle.ballot_table.specs.Asked.{asked_of}
use Rattle.ballot_table.specs.Head.{unlabelled}
use Rattle.ballot_table.proofs.shape.others.Given as goal

-- those without a label among the texts so far
abbrev pub invariant-loop-text : goal.invariant-loop-text
invariant-loop-text l = record {
  counted : l.others ≡ length (unlabelled (asked_of l.asked) (take l.text-index l.texts));
  few : l.others ≤ l.text-index;
}
