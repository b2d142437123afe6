use Rattle.std.proofs.Common.{take}
use Rattle.std.specs.List.{flat_map}
use Rattle.csv_text.specs.Csv.{behind_comma}
use Rattle.piece_text.specs.Writing.{Wrote}
use Rattle.csv_text.proofs.record.write_others.Given as goal

abbrev pub invariant-loop-field : goal.invariant-loop-field
invariant-loop-field g l =
    Wrote g.K.Sink.written g.K.Sink.faults l.initial.sink l.sink
    (flat_map (λ field. behind_comma field.now) (take l.field-index l.fields))
