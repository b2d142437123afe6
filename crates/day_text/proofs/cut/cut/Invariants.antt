use Rattle.std.specs.Prelude.{take}
use Rattle.sheet_reader.specs.Cut.{IsWithout}
use Rattle.day_text.proofs.cut.cut.Given as goal

abbrev pub invariant-loop-at : goal.invariant-loop-at
invariant-loop-at l = IsWithout l.byte (take l.at l.text)
