use Rattle.std.proofs.Common.{◌≡◌, map, take}
use Rattle.ballot_table.specs.Head.{name_of, unlabelled}
use Rattle.ballot_table.specs.Asked.{asked_of}
use Rattle.ballot_table.proofs.head.head_names.Given as goal

-- the names of the texts so far
abbrev pub invariant-loop-text : goal.invariant-loop-text
invariant-loop-text l =
    l.names ≡ map (name_of (asked_of l.asked)) (unlabelled (asked_of l.asked) (take l.text-index l.texts))
