use Rattle.std.proofs.Common.{◌-◌}
use Rattle.std.specs.List.{flat_map, range_with_len}
use Rattle.piece_text.specs.Writing.{Wrote}
use Rattle.sheet_text.specs.Lines.{ended}
use Rattle.sheet_minutes.specs.declared.entry.Entry.TheVariants.{Candidate}
use Rattle.sheet_minutes.specs.Rounds.{rounds_in}
use Rattle.sheet_minutes.specs.Table.{line}
use Rattle.sheet_minutes.proofs.block.write_candidates.Given as goal

abbrev pub invariant-loop-p : goal.invariant-loop-p
invariant-loop-p g l =
    Wrote g.K.Sink.written g.K.Sink.faults l.initial.sink l.sink
    (flat_map (λ p. ended (line g.row.P l.values l.width (rounds_in l.values.rows l.first (l.end - l.first)) (Candidate p)))
    (range_with_len 0 l.p))
