use Rattle.blt_writer.specs.ShortTexts.{AreTextsBelow}
use Rattle.blt_writer.proofs.short_numbers.ShortNumbers.new.Given as goal

abbrev pub invariant-loop-n : goal.invariant-loop-n
invariant-loop-n l = AreTextsBelow l.n l.numbers.texts l.numbers.lens
