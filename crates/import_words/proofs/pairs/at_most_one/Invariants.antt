use Rattle.std.proofs.Common.{◌≡◌, take}
use Rattle.import_words.specs.Pairs.{values_of}
use Rattle.import_words.specs.Values.{pairs_in, words_in}
use Rattle.import_words.proofs.pairs.at_most_one.Given as goal

-- what is found is what the pairs so far say
abbrev pub invariant-loop-pair : goal.invariant-loop-pair
invariant-loop-pair l = words_in l.found ≡ values_of l.option (pairs_in (take l.pair-index l.pairs))
