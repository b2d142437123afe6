use Rattle.std.proofs.Common.{take}
use Rattle.std.specs.List.{flat_map}
use Rattle.piece_text.specs.Writing.{Wrote}
use Rattle.page_tree.proofs.escapes.write_each.Given as goal

abbrev pub invariant-loop-byte : goal.invariant-loop-byte
invariant-loop-byte g l =
    Wrote g.K.Sink.written g.K.Sink.faults l.initial.sink l.sink (flat_map g.E.Escapes.escape (take l.byte-index l.bytes))
