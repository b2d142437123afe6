use Rattle.std.specs.Prelude.{All, take}
use Rattle.lot_draw.specs.Words.{IsPrinted}
use Rattle.lot_draw.proofs.words.is_printed.Given as goal

abbrev pub invariant-loop-byte : goal.invariant-loop-byte
invariant-loop-byte l = All IsPrinted (take l.byte-index l.bytes)
