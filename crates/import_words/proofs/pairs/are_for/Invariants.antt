use Rattle.std.proofs.Common.{take, All, IsTrue}
use Rattle.import_words.specs.Options.{is_of}
use Rattle.import_words.proofs.pairs.are_for.Given as goal

abbrev pub invariant-loop-pair : goal.invariant-loop-pair
invariant-loop-pair l = All (λ pair. IsTrue (is_of l.layout pair.option)) (take l.pair-index l.pairs)
