use Rattle.std.proofs.Common.{◌≡◌, take}
use Rattle.import_words.specs.Pairs.{columns_of}
use Rattle.import_words.specs.Values.{pairs_in, texts_in}
use Rattle.import_words.proofs.pairs.columns.Given as goal

-- the values are those of the pairs so far
abbrev pub invariant-loop-pair : goal.invariant-loop-pair
invariant-loop-pair l = texts_in l.values.items ≡ columns_of (pairs_in (take l.pair-index l.pairs))
