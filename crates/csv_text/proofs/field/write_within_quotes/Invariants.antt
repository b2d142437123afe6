use Rattle.std.proofs.Common.{take}
use Rattle.std.specs.List.{flat_map}
use Rattle.csv_text.specs.Csv.{within_quotes}
use Rattle.piece_text.specs.Writing.{Wrote}
use Rattle.csv_text.proofs.field.write_within_quotes.Given as goal

abbrev pub invariant-loop-byte : goal.invariant-loop-byte
invariant-loop-byte g l =
    Wrote g.K.Sink.written g.K.Sink.faults l.initial.sink l.sink
    (flat_map within_quotes (take l.byte-index l.field))
